-- Which steps are taken, and which refused.
use Rattle.std.proofs.Common.{ℕ, subst}
use Rattle.merge_core.specs.declared.refusal.Refusal.{Refusal}
use Rattle.merge_core.specs.declared.refusal.Refusal.TheVariants as refusals
use Rattle.merge_core.specs.declared.step.Step.{Step}
use Rattle.merge_core.specs.declared.step.Step.TheVariants as steps
use Rattle.merge_core.specs.Core.{standing_in}
use Rattle.merge_core.specs.Event.{Admits}
use Rattle.merge_core.specs.CoreValue.{CoreValue, machine_of}
use Rattle.merge_core.specs.Steps.{CanCome, IsDueFor, IsPhaseFor, IsRefused, event_of}

-- what the machine admits is in its phase, and due
admitted : (k : CoreValue) (g : ℕ) (s : Step) → Admits (machine_of k) (event_of g s) → IsPhaseFor s (standing_in k.standings g).phase × IsDueFor s (standing_in k.standings g)
admitted k g steps.Begin a = (a.1, tt)
admitted k g steps.PutToken a = (a, tt)
admitted k g steps.SyncSealed a = (a, tt)
admitted k g steps.OpenGate a = (a, tt)
admitted k g steps.SyncGate a = (a, tt)
admitted k g steps.PlacePath a = a
admitted k g steps.RemovePath a = a
admitted k g steps.SyncPlaced a = (a.0, (a.1, a.2))
admitted k g steps.CloseGate a = (a, tt)
admitted k g steps.SyncClosed a = (a, tt)
admitted k g steps.Acknowledge a = (a, tt)
admitted k g steps.Abandon a = (a, tt)

-- no step that may come is refused
pub none_admitted : (k : CoreValue) (g : ℕ) (s : Step) (f : Refusal) → IsRefused k g s f → CanCome k g s → Admits (machine_of k) (event_of g s) → ⊥
none_admitted k g s refusals.OutOfRange h comes a = h comes
none_admitted k g s (refusals.WrongPhase has asked) h comes a = h.3 (subst (IsPhaseFor s) h.1 (admitted k g s a).0)
none_admitted k g s (refusals.NotDue left) h comes a = h.2 (admitted k g s a).1
none_admitted k g s refusals.Limit h comes a = h
none_admitted k g s refusals.Memory h comes a = h
