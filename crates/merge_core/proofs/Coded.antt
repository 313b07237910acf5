-- Phases of the code and of the machine.
use Rattle.std.proofs.Common.{◌≡◌, refl, sym, ap, ◌∙◌}
use Rattle.merge_core.specs.declared.phase.Phase.{Phase}
use Rattle.merge_core.specs.declared.phase.Phase.TheVariants as code
use Rattle.merge_core.specs.Phase as pure
use Rattle.merge_core.specs.Phases.{phase_of}

abbrev code_of : pure.Phase → Phase
code_of pure.Idle = code.Idle
code_of pure.Building = code.Building
code_of pure.Recorded = code.Recorded
code_of pure.Marked = code.Marked
code_of pure.Sealed = code.Sealed
code_of pure.Claimed = code.Claimed
code_of pure.GatePut = code.GatePut
code_of pure.Open = code.Open
code_of pure.Placed = code.Placed
code_of pure.GateTaken = code.GateTaken
code_of pure.Done = code.Done
code_of pure.Told = code.Told
code_of p = code.Abandoned

coded : (p : Phase) → code_of (phase_of p) ≡ p
coded code.Idle = refl
coded code.Building = refl
coded code.Recorded = refl
coded code.Marked = refl
coded code.Sealed = refl
coded code.Claimed = refl
coded code.GatePut = refl
coded code.Open = refl
coded code.Placed = refl
coded code.GateTaken = refl
coded code.Done = refl
coded code.Told = refl
coded code.Abandoned = refl

-- two phases of the code that are one of the machine are one
pub phases_same : (p q : Phase) → phase_of p ≡ phase_of q → p ≡ q
phases_same p q e = sym (coded p) ∙ (ap code_of e ∙ coded q)
