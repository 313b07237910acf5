-- The order has room for each group.
use Rattle.std.proofs.Common.{◌≡◌, ◌<◌, ◌≤◌, ◌+◌, ◌*◌, ◌&&◌, ◌==◌, ℕ, suc, Bool, true, false, cond, length, List, sym, subst, ap, ◌∙◌, arith}
use Rattle.std.proofs.lemmas.Bool.{and_parts, false≢true}
use Rattle.std.proofs.lemmas.List.{length-set}
use Rattle.std.proofs.lemmas.List.Elements.{All-from_get_or}
use Rattle.std.proofs.lemmas.List.Sums.{sum_by-le, sum_by-set}
use Rattle.std.specs.List.{sum_by}
use Rattle.std.specs.Prelude.{slice_set}
use Rattle.merge_core.specs.declared.step.Step.{Step}
use Rattle.merge_core.specs.declared.step.Step.TheVariants as steps
use Rattle.merge_core.specs.Core.{standing_in}
use Rattle.merge_core.specs.CoreValue.{IsCounted}
use Rattle.merge_core.specs.Phase as pure
use Rattle.merge_core.specs.Roll.{Standing, resting, settled_behind, syncs_behind}
use Rattle.merge_core.specs.Steps.{IsPhaseFor, enters, is_sync, moved}

-- where a group isn't in the order, the others are fewer than all
pub order_fits : (xs : List Standing) (g n : ℕ) → g < length xs → (standing_in xs g).phase ≡ pure.Open → n ≤ sum_by settled_behind xs → n < length xs
order_fits xs g n lt open_at le =
    let after : List Standing = slice_set xs g told in
    let grows : sum_by settled_behind after + settled_behind (standing_in xs g) ≡ sum_by settled_behind xs + settled_behind told = sum_by-set settled_behind xs g told resting lt in
    let none : settled_behind (standing_in xs g) ≡ 0 = ap (λ p. cond (pure.is_settled p) 1 0) open_at in
    let most : sum_by settled_behind after ≤ length after * 1 = sum_by-le settled_behind 1 after (All-from_get_or (λ x. settled_behind x ≤ 1) after resting (λ i _. one (standing_in after i))) in
    omega (arith, le, grows, none, most, length-set xs g told)
  where
    told : Standing
    told = record resting { phase = pure.Told }

    one : (x : Standing) → settled_behind x ≤ 1
    one x = go (pure.is_settled x.phase) where
      go : (b : Bool) → cond b 1 0 ≤ 1
      go true = omega arith
      go false = omega arith

-- a group that comes into the order was open
open_if_enters : (s : Step) (p : pure.Phase) → enters s ≡ true → IsPhaseFor s p → p ≡ pure.Open
open_if_enters steps.Begin p e h = absurd (false≢true e)
open_if_enters steps.PutToken p e h = absurd (false≢true e)
open_if_enters steps.SyncSealed p e h = absurd (false≢true e)
open_if_enters steps.OpenGate p e h = absurd (false≢true e)
open_if_enters steps.SyncGate p e h = absurd (false≢true e)
open_if_enters steps.PlacePath p e h = absurd (false≢true e)
open_if_enters steps.RemovePath p e h = absurd (false≢true e)
open_if_enters steps.SyncPlaced p e h = h
open_if_enters steps.CloseGate p e h = absurd (false≢true e)
open_if_enters steps.SyncClosed p e h = absurd (false≢true e)
open_if_enters steps.Acknowledge p e h = absurd (false≢true e)
open_if_enters steps.Abandon p e h = absurd (false≢true e)

pub room_for : (xs : List Standing) (g n m : ℕ) (s : Step) (ok b : Bool) → g < length xs → IsPhaseFor s (standing_in xs g).phase → n ≤ sum_by settled_behind xs → length xs ≤ m → b ≡ (ok && enters s) → b ≡ true → n < m
room_for xs g n m s ok b lt phase le most is true_b =
    let at_open : (standing_in xs g).phase ≡ pure.Open = open_if_enters s (standing_in xs g).phase (and_parts ok (enters s) (sym is ∙ true_b)).1 phase in
    omega (arith, most, order_fits xs g n lt at_open le)

none_if_ends : (p : pure.Phase) → pure.may_end p ≡ true → cond (pure.is_settled p) 1 0 + 0 ≤ 0
none_if_ends pure.Building e = omega arith
none_if_ends pure.Recorded e = omega arith
none_if_ends pure.Marked e = omega arith
none_if_ends pure.Sealed e = omega arith
none_if_ends pure.Idle e = absurd (false≢true e)
none_if_ends pure.Claimed e = absurd (false≢true e)
none_if_ends pure.GatePut e = absurd (false≢true e)
none_if_ends pure.Open e = absurd (false≢true e)
none_if_ends pure.Placed e = absurd (false≢true e)
none_if_ends pure.GateTaken e = absurd (false≢true e)
none_if_ends pure.Done e = absurd (false≢true e)
none_if_ends pure.Told e = absurd (false≢true e)
none_if_ends pure.Abandoned e = absurd (false≢true e)
none_if_ends pure.Redo e = absurd (false≢true e)
none_if_ends pure.Redone e = absurd (false≢true e)
none_if_ends pure.Odd e = absurd (false≢true e)
none_if_ends pure.Emptied e = absurd (false≢true e)

-- a group has at least as much behind it as its step counts
weighs : (s : Step) (ok : Bool) (n : ℕ) (x : Standing) → IsPhaseFor s x.phase → settled_behind x + cond (ok && enters s) 1 0 ≤ settled_behind (moved s ok n x)
weighs steps.Begin true n x h = subst (λ p. cond (pure.is_settled p) 1 0 + 0 ≤ settled_behind (moved steps.Begin true n x)) (sym h) (omega arith)
weighs steps.PutToken true n x h = subst (λ p. cond (pure.is_settled p) 1 0 + 0 ≤ settled_behind (moved steps.PutToken true n x)) (sym h) (omega arith)
weighs steps.SyncSealed true n x h = subst (λ p. cond (pure.is_settled p) 1 0 + 0 ≤ settled_behind (moved steps.SyncSealed true n x)) (sym h) (omega arith)
weighs steps.OpenGate true n x h = subst (λ p. cond (pure.is_settled p) 1 0 + 0 ≤ settled_behind (moved steps.OpenGate true n x)) (sym h) (omega arith)
weighs steps.SyncGate true n x h = subst (λ p. cond (pure.is_settled p) 1 0 + 0 ≤ settled_behind (moved steps.SyncGate true n x)) (sym h) (omega arith)
weighs steps.PlacePath true n x h = omega arith
weighs steps.RemovePath true n x h = omega arith
weighs steps.SyncPlaced true n x h = subst (λ p. cond (pure.is_settled p) 1 0 + 1 ≤ settled_behind (moved steps.SyncPlaced true n x)) (sym h) (omega arith)
weighs steps.CloseGate true n x h = subst (λ p. cond (pure.is_settled p) 1 0 + 0 ≤ settled_behind (moved steps.CloseGate true n x)) (sym h) (omega arith)
weighs steps.SyncClosed true n x h = subst (λ p. cond (pure.is_settled p) 1 0 + 0 ≤ settled_behind (moved steps.SyncClosed true n x)) (sym h) (omega arith)
weighs steps.Acknowledge true n x h = subst (λ p. cond (pure.is_settled p) 1 0 + 0 ≤ settled_behind (moved steps.Acknowledge true n x)) (sym h) (omega arith)
weighs steps.Abandon true n x h = none_if_ends x.phase h
weighs steps.Begin false n x h = omega arith
weighs steps.PutToken false n x h = omega arith
weighs steps.SyncSealed false n x h = omega arith
weighs steps.OpenGate false n x h = subst (λ p. cond (pure.is_settled p) 1 0 + 0 ≤ settled_behind (moved steps.OpenGate false n x)) (sym h) (omega arith)
weighs steps.SyncGate false n x h = omega arith
weighs steps.PlacePath false n x h = omega arith
weighs steps.RemovePath false n x h = omega arith
weighs steps.SyncPlaced false n x h = omega arith
weighs steps.CloseGate false n x h = subst (λ p. cond (pure.is_settled p) 1 0 + 0 ≤ settled_behind (moved steps.CloseGate false n x)) (sym h) (omega arith)
weighs steps.SyncClosed false n x h = omega arith
weighs steps.Acknowledge false n x h = omega arith
weighs steps.Abandon false n x h = omega arith

pub order_counts : (xs : List Standing) (g n m : ℕ) (s : Step) (ok : Bool) → g < length xs → IsPhaseFor s (standing_in xs g).phase → n ≤ sum_by settled_behind xs → n + cond (ok && enters s) 1 0 ≤ sum_by settled_behind (slice_set xs g (moved s ok m (standing_in xs g)))
order_counts xs g n m s ok lt phase le = omega (arith, le, weighs s ok m (standing_in xs g) phase, sum_by-set settled_behind xs g (moved s ok m (standing_in xs g)) resting lt)

-- so with syncs
syncs_if_ends : (p : pure.Phase) → pure.may_end p ≡ true → pure.syncs_of p + 0 ≤ 1
syncs_if_ends pure.Building e = omega arith
syncs_if_ends pure.Recorded e = omega arith
syncs_if_ends pure.Marked e = omega arith
syncs_if_ends pure.Sealed e = omega arith
syncs_if_ends pure.Idle e = absurd (false≢true e)
syncs_if_ends pure.Claimed e = absurd (false≢true e)
syncs_if_ends pure.GatePut e = absurd (false≢true e)
syncs_if_ends pure.Open e = absurd (false≢true e)
syncs_if_ends pure.Placed e = absurd (false≢true e)
syncs_if_ends pure.GateTaken e = absurd (false≢true e)
syncs_if_ends pure.Done e = absurd (false≢true e)
syncs_if_ends pure.Told e = absurd (false≢true e)
syncs_if_ends pure.Abandoned e = absurd (false≢true e)
syncs_if_ends pure.Redo e = absurd (false≢true e)
syncs_if_ends pure.Redone e = absurd (false≢true e)
syncs_if_ends pure.Odd e = absurd (false≢true e)
syncs_if_ends pure.Emptied e = absurd (false≢true e)

weighs_syncs : (s : Step) (ok : Bool) (n : ℕ) (x : Standing) → IsPhaseFor s x.phase → syncs_behind x + cond (ok && is_sync s) 1 0 ≤ syncs_behind (moved s ok n x)
weighs_syncs steps.Begin true n x h = subst (λ p. pure.syncs_of p + 0 ≤ syncs_behind (moved steps.Begin true n x)) (sym h) (omega arith)
weighs_syncs steps.PutToken true n x h = subst (λ p. pure.syncs_of p + 0 ≤ syncs_behind (moved steps.PutToken true n x)) (sym h) (omega arith)
weighs_syncs steps.SyncSealed true n x h = subst (λ p. pure.syncs_of p + 1 ≤ syncs_behind (moved steps.SyncSealed true n x)) (sym h) (omega arith)
weighs_syncs steps.OpenGate true n x h = subst (λ p. pure.syncs_of p + 0 ≤ syncs_behind (moved steps.OpenGate true n x)) (sym h) (omega arith)
weighs_syncs steps.SyncGate true n x h = subst (λ p. pure.syncs_of p + 1 ≤ syncs_behind (moved steps.SyncGate true n x)) (sym h) (omega arith)
weighs_syncs steps.PlacePath true n x h = omega arith
weighs_syncs steps.RemovePath true n x h = omega arith
weighs_syncs steps.SyncPlaced true n x h = subst (λ p. pure.syncs_of p + 1 ≤ syncs_behind (moved steps.SyncPlaced true n x)) (sym h) (omega arith)
weighs_syncs steps.CloseGate true n x h = subst (λ p. pure.syncs_of p + 0 ≤ syncs_behind (moved steps.CloseGate true n x)) (sym h) (omega arith)
weighs_syncs steps.SyncClosed true n x h = subst (λ p. pure.syncs_of p + 1 ≤ syncs_behind (moved steps.SyncClosed true n x)) (sym h) (omega arith)
weighs_syncs steps.Acknowledge true n x h = subst (λ p. pure.syncs_of p + 0 ≤ syncs_behind (moved steps.Acknowledge true n x)) (sym h) (omega arith)
weighs_syncs steps.Abandon true n x h = syncs_if_ends x.phase h
weighs_syncs steps.Begin false n x h = omega arith
weighs_syncs steps.PutToken false n x h = omega arith
weighs_syncs steps.SyncSealed false n x h = omega arith
weighs_syncs steps.OpenGate false n x h = subst (λ p. pure.syncs_of p + 0 ≤ syncs_behind (moved steps.OpenGate false n x)) (sym h) (omega arith)
weighs_syncs steps.SyncGate false n x h = omega arith
weighs_syncs steps.PlacePath false n x h = omega arith
weighs_syncs steps.RemovePath false n x h = omega arith
weighs_syncs steps.SyncPlaced false n x h = omega arith
weighs_syncs steps.CloseGate false n x h = subst (λ p. pure.syncs_of p + 0 ≤ syncs_behind (moved steps.CloseGate false n x)) (sym h) (omega arith)
weighs_syncs steps.SyncClosed false n x h = omega arith
weighs_syncs steps.Acknowledge false n x h = omega arith
weighs_syncs steps.Abandon false n x h = omega arith

at_most_one : (a b c : Bool) (n : ℕ) → cond (a && (b && c)) (suc n) n ≤ n + cond (a && b) 1 0
at_most_one true true true n = omega arith
at_most_one true true false n = omega arith
at_most_one true false c n = omega arith
at_most_one false b c n = omega arith

-- the counts stay bounded
pub counted_after : (xs : List Standing) (g n m syncs n2 m2 syncs2 : ℕ) (y : Standing) (s : Step) (ok b : Bool) → g < length xs → IsPhaseFor s (standing_in xs g).phase → IsCounted xs syncs n m
    → y ≡ moved s ok syncs (standing_in xs g) → syncs2 ≡ cond (ok && (is_sync s && ((standing_in xs g).stamp == syncs))) (suc syncs) syncs
    → n2 ≡ n + cond b 1 0 → b ≡ (ok && enters s) → m ≤ m2 → IsCounted (slice_set xs g y) syncs2 n2 m2
counted_after xs g n m syncs n2 m2 syncs2 y s ok b lt phase counted y_is syncs_is n_is b_is le =
    let x = standing_in xs g in
    let new = moved s ok syncs x in
    let len : length (slice_set xs g new) ≡ length xs = length-set xs g new in
    let more : syncs2 ≤ syncs + cond (ok && is_sync s) 1 0 = subst (λ z. z ≤ syncs + cond (ok && is_sync s) 1 0) (sym syncs_is) (at_most_one ok (is_sync s) (x.stamp == syncs) syncs) in
    let order : n + cond (ok && enters s) 1 0 ≤ sum_by settled_behind (slice_set xs g new) = order_counts xs g n syncs s ok lt phase counted.order in
    let n_new : n2 ≡ n + cond (ok && enters s) 1 0 = n_is ∙ ap (λ (z : Bool). n + cond z 1 0) b_is in
    subst (λ z. IsCounted (slice_set xs g z) syncs2 n2 m2) (sym y_is) (record {
      groups = omega (arith, len, counted.groups);
      syncs = omega (arith, more, counted.syncs, weighs_syncs s ok syncs x phase, sum_by-set syncs_behind xs g new resting lt);
      order = omega (arith, order, n_new);
      room = omega (arith, len, counted.room, le);
    })
