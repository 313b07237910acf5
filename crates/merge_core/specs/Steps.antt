-- Steps that are told by their name alone: when each may come, and what it makes of its group.
use Rattle.std.specs.Prelude.{◌≡◌, ◌==◌, ◌<◌, ◌+◌, ◌-◌, ◌++◌, ◌&&◌, ◌||◌, ℕ, suc, Bool, true, false, ⊤, if◌then◌else◌}
use Rattle.std.specs.Prelude.{not}
use Rattle.std.specs.Prelude.{length, List, [], ◌∷◌, slice_set}
use Rattle.merge_journal.specs.Group.{Group}
use Rattle.merge_core.specs.declared.phase.Phase.{Phase}
use Rattle.merge_core.specs.declared.phase.Phase.TheVariants as phases
use Rattle.merge_core.specs.declared.refusal.Refusal.{Refusal}
use Rattle.merge_core.specs.declared.refusal.Refusal.TheVariants as refusals
use Rattle.merge_core.specs.declared.step.Step.{Step}
use Rattle.merge_core.specs.declared.step.Step.TheVariants as steps
use Rattle.merge_core.specs.Event as events
use Rattle.merge_core.specs.Core.{standing_in}
use Rattle.merge_core.specs.Event.{Event, MayFollow}
use Rattle.merge_core.specs.CoreValue.{CoreValue, machine_of}
use Rattle.merge_core.specs.Phase as pure
use Rattle.merge_core.specs.Phases.{phase_of}
use Rattle.merge_core.specs.Roll.{Standing, group_of, resting}

-- the event that the step is
abbrev pub event_of : ℕ → Step → Event
event_of g steps.Begin = events.Begin g
event_of g steps.PutToken = events.PutToken g
event_of g steps.SyncSealed = events.SyncSealed g
event_of g steps.OpenGate = events.OpenGate g
event_of g steps.SyncGate = events.SyncGate g
event_of g steps.PlacePath = events.PlacePath g
event_of g steps.RemovePath = events.RemovePath g
event_of g steps.SyncPlaced = events.SyncPlaced g
event_of g steps.CloseGate = events.CloseGate g
event_of g steps.SyncClosed = events.SyncClosed g
event_of g steps.Acknowledge = events.Acknowledge g
event_of g steps.Abandon = events.Abandon g

-- the step asks the device for a sync, where its group needs one
abbrev pub is_sync : Step → Bool
is_sync steps.SyncSealed = true
is_sync steps.SyncGate = true
is_sync steps.SyncPlaced = true
is_sync steps.SyncClosed = true
is_sync s = false

-- the step brings its group into the order
abbrev pub enters : Step → Bool
enters steps.SyncPlaced = true
enters s = false

-- the phase that a step asks for; an abandon takes any until the claim
abbrev pub wanted : Step → Phase
wanted steps.Begin = phases.Idle
wanted steps.PutToken = phases.Recorded
wanted steps.SyncSealed = phases.Marked
wanted steps.OpenGate = phases.Claimed
wanted steps.SyncGate = phases.GatePut
wanted steps.PlacePath = phases.Open
wanted steps.RemovePath = phases.Open
wanted steps.SyncPlaced = phases.Open
wanted steps.CloseGate = phases.Placed
wanted steps.SyncClosed = phases.GateTaken
wanted steps.Acknowledge = phases.Done
wanted steps.Abandon = phases.Building

-- a group in this phase may take the step
abbrev pub IsPhaseFor : Step → pure.Phase → Type 0
IsPhaseFor steps.Abandon p = pure.may_end p ≡ true
IsPhaseFor s p = p ≡ phase_of (wanted s)

-- the paths that are still to be changed leave room for the step
abbrev pub IsDueFor : Step → Standing → Type 0
IsDueFor steps.PlacePath x = x.placed < length x.placements
IsDueFor steps.RemovePath x = x.removed < length x.removals
IsDueFor steps.SyncPlaced x =
    (length x.placements ≡ x.placed) × (length x.removals ≡ x.removed)
IsDueFor s x = ⊤

-- how many paths are still to be changed, where all of them have to be done
abbrev pub left_for : Step → Standing → ℕ
left_for steps.SyncPlaced x =
    (length x.placements - x.placed) + (length x.removals - x.removed)
left_for s x = 0

-- the group once the step's call has begun
abbrev pub started : Step → ℕ → Standing → Standing
started steps.PutToken n x = record x { stamp = n }
started steps.OpenGate n x = record x { phase = pure.GatePut; stamp = n }
started steps.PlacePath n x = record x { stamp = n }
started steps.RemovePath n x = record x { stamp = n }
started steps.CloseGate n x = record x { phase = pure.GateTaken; stamp = n }
started s n x = x

-- the group once the step's call answered Ok
abbrev pub finished : Step → ℕ → Standing → Standing
finished steps.Begin n x = record resting { phase = pure.Building; stamp = x.stamp }
finished steps.PutToken n x = record x { phase = pure.Marked; stamp = n }
finished steps.SyncSealed n x = record x { phase = pure.Sealed }
finished steps.OpenGate n x = record x { phase = pure.GatePut; stamp = n }
finished steps.SyncGate n x = record x { phase = pure.Open; placed = 0; removed = 0 }
finished steps.PlacePath n x = record x { placed = suc x.placed; stamp = n }
finished steps.RemovePath n x = record x { removed = suc x.removed; stamp = n }
finished steps.SyncPlaced n x = record x { phase = pure.Placed }
finished steps.CloseGate n x = record x { phase = pure.GateTaken; stamp = n }
finished steps.SyncClosed n x = record x { phase = pure.Done }
finished steps.Acknowledge n x = record x { phase = pure.Told }
finished steps.Abandon n x = record x { phase = pure.Abandoned }

-- the group once the step's call was answered
abbrev pub moved : Step → Bool → ℕ → Standing → Standing
moved s true n x = finished s n x
moved s false n x = started s n x

-- the count of syncs once the step's call was answered
abbrev pub syncs_after : CoreValue → ℕ → Step → Bool → ℕ
syncs_after k g s ok =
    if ok && (is_sync s && ((standing_in k.standings g).stamp == k.syncs))
    then suc k.syncs
    else k.syncs

-- the groups in the tree once the step's call was answered
abbrev pub order_after : CoreValue → ℕ → Step → Bool → List Group
order_after k g steps.SyncPlaced true = k.order ++ group_of g (standing_in k.standings g) ∷ []
order_after k g s ok = k.order

-- what is kept once the step's call was answered
abbrev pub after : CoreValue → ℕ → Step → Bool → CoreValue
after k g s ok = record {
  standings = slice_set k.standings g (moved s ok k.syncs (standing_in k.standings g));
  order = order_after k g s ok;
  syncs = syncs_after k g s ok;
  stopped = not ok || k.stopped;
}

-- there is such a group, and the machine isn't stopped, or the step is an abandon
abbrev pub CanCome : CoreValue → ℕ → Step → Type 0
CanCome k g s = (g < length k.standings) × MayFollow (machine_of k) (event_of g s)

-- the step may come now
pub record IsTaken (k : CoreValue) (g : ℕ) (s : Step) : Type 0 where
  pub comes : CanCome k g s
  pub phase : IsPhaseFor s (standing_in k.standings g).phase
  pub due : IsDueFor s (standing_in k.standings g)

-- why it may not
abbrev pub IsRefused : CoreValue → ℕ → Step → Refusal → Type 0
IsRefused k g s refusals.OutOfRange = ¬ CanCome k g s
IsRefused k g s (refusals.WrongPhase has asked) = CanCome k g s
    × ((standing_in k.standings g).phase ≡ phase_of has) × (asked ≡ wanted s)
    × (¬ IsPhaseFor s (phase_of has))
IsRefused k g s (refusals.NotDue left) = CanCome k g s
    × IsPhaseFor s (standing_in k.standings g).phase
    × (¬ IsDueFor s (standing_in k.standings g))
    × (left ≡ left_for s (standing_in k.standings g))
IsRefused k g s refusals.Limit = ⊥
IsRefused k g s refusals.Memory = ⊥
