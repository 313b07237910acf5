-- The machine that the code keeps goes as its events say.
use Rattle.std.proofs.Common.{◌≡◌, ◌<◌, ◌≤◌, ◌+◌, ◌^◌, ℕ, Bool, true, false, not, ◌||◌, length, List, All, sym, ap, ◌∙◌, arith}
use Rattle.std.proofs.lemmas.List.{set-get_or}
use Rattle.std.proofs.lemmas.List.Elements.{All-from_get_or}
use Rattle.std.proofs.lemmas.List.Sums.{sum_by-le}
use Rattle.std.specs.List.{sum_by}
use Rattle.merge_journal.specs.Group.{Group}
use Rattle.merge_core.specs.declared.step.Step.{Step}
use Rattle.merge_core.specs.declared.step.Step.TheVariants as steps
use Rattle.merge_core.specs.Core.{standing_in}
use Rattle.merge_core.specs.Event.{answered}
use Rattle.merge_core.specs.CoreValue.{CoreValue, machine_of}
use Rattle.merge_core.specs.Phase as pure
use Rattle.merge_core.specs.Roll.{Machine, Roll, Standing, resting, set, syncs_behind}
use Rattle.merge_core.specs.Steps.{after, event_of, moved, order_after, syncs_after}
use Rattle.merge_core.proofs.Along.{list_set}

-- no group has more than four syncs behind it
four : (x : Standing) → syncs_behind x ≤ 4
four x = go x.phase where
  go : (p : pure.Phase) → pure.syncs_of p ≤ 4
  go pure.Idle = omega arith
  go pure.Building = omega arith
  go pure.Recorded = omega arith
  go pure.Marked = omega arith
  go pure.Sealed = omega arith
  go pure.Claimed = omega arith
  go pure.GatePut = omega arith
  go pure.Open = omega arith
  go pure.Placed = omega arith
  go pure.GateTaken = omega arith
  go pure.Done = omega arith
  go pure.Told = omega arith
  go pure.Abandoned = omega arith
  go pure.Redo = omega arith
  go pure.Redone = omega arith
  go pure.Odd = omega arith
  go pure.Emptied = omega arith

every : (xs : List Standing) → All (λ x. syncs_behind x ≤ 4) xs
every xs = All-from_get_or (λ x. syncs_behind x ≤ 4) xs resting (λ i _. four (standing_in xs i))

-- the syncs of fewer than 2 ^ 32 groups fit
pub syncs_fit : (xs : List Standing) (n : ℕ) → length xs < 2 ^ 32 → n ≤ sum_by syncs_behind xs → n + 1 < 2 ^ 64
syncs_fit xs n lt le = omega (arith, lt, le, sum_by-le syncs_behind 4 xs (every xs))

abbrev machine_by : ℕ → Bool → Roll → Machine
machine_by n stopped r = record { roll = r; syncs = n; stopped = stopped }

abbrev roll_by : List Group → (ℕ → Standing) → Roll
roll_by order f = record { standing = f; order = order }

-- a group that is set to what it is
unset : (xs : List Standing) (order : List Group) (g : ℕ) → g < length xs → set (roll_by order (standing_in xs)) g (standing_in xs g) ≡ roll_by order (standing_in xs)
unset xs order g lt = sym (list_set xs order g (standing_in xs g) lt) ∙ ap (λ ys. roll_by order (standing_in ys)) (set-get_or xs g resting)

-- what is kept is the machine that the event makes
pub kept : (k : CoreValue) (g : ℕ) (s : Step) (ok : Bool) → g < length k.standings → machine_of (after k g s ok) ≡ answered (machine_of k) (event_of g s) ok
kept k g s ok lt = go s ok where
  sets : (s : Step) (ok : Bool) → machine_of (after k g s ok) ≡ machine_by (syncs_after k g s ok) (not ok || k.stopped) (set (roll_by (order_after k g s ok) (standing_in k.standings)) g (moved s ok k.syncs (standing_in k.standings g)))
  sets s ok = ap (machine_by (syncs_after k g s ok) (not ok || k.stopped)) (list_set k.standings (order_after k g s ok) g (moved s ok k.syncs (standing_in k.standings g)) lt)

  stays : machine_by k.syncs true (set (roll_by k.order (standing_in k.standings)) g (standing_in k.standings g)) ≡ machine_by k.syncs true (roll_by k.order (standing_in k.standings))
  stays = ap (machine_by k.syncs true) (unset k.standings k.order g lt)

  go : (s : Step) (ok : Bool) → machine_of (after k g s ok) ≡ answered (machine_of k) (event_of g s) ok
  go steps.Begin true = sets steps.Begin true
  go steps.PutToken true = sets steps.PutToken true
  go steps.SyncSealed true = sets steps.SyncSealed true
  go steps.OpenGate true = sets steps.OpenGate true
  go steps.SyncGate true = sets steps.SyncGate true
  go steps.PlacePath true = sets steps.PlacePath true
  go steps.RemovePath true = sets steps.RemovePath true
  go steps.SyncPlaced true = sets steps.SyncPlaced true
  go steps.CloseGate true = sets steps.CloseGate true
  go steps.SyncClosed true = sets steps.SyncClosed true
  go steps.Acknowledge true = sets steps.Acknowledge true
  go steps.Abandon true = sets steps.Abandon true
  go steps.Begin false = sets steps.Begin false ∙ stays
  go steps.PutToken false = sets steps.PutToken false
  go steps.SyncSealed false = sets steps.SyncSealed false ∙ stays
  go steps.OpenGate false = sets steps.OpenGate false
  go steps.SyncGate false = sets steps.SyncGate false ∙ stays
  go steps.PlacePath false = sets steps.PlacePath false
  go steps.RemovePath false = sets steps.RemovePath false
  go steps.SyncPlaced false = sets steps.SyncPlaced false ∙ stays
  go steps.CloseGate false = sets steps.CloseGate false
  go steps.SyncClosed false = sets steps.SyncClosed false ∙ stays
  go steps.Acknowledge false = sets steps.Acknowledge false ∙ stays
  go steps.Abandon false = sets steps.Abandon false ∙ stays
