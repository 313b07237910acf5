-- The phases of the code as those of the machine.
use Rattle.merge_core.specs.declared.phase.Phase.TheVariants as code
use Rattle.merge_core.specs.declared.phase.Phase.{Phase}
use Rattle.merge_core.specs.Phase as pure

abbrev pub phase_of : Phase → pure.Phase
phase_of code.Idle = pure.Idle
phase_of code.Building = pure.Building
phase_of code.Recorded = pure.Recorded
phase_of code.Marked = pure.Marked
phase_of code.Sealed = pure.Sealed
phase_of code.Claimed = pure.Claimed
phase_of code.GatePut = pure.GatePut
phase_of code.Open = pure.Open
phase_of code.Placed = pure.Placed
phase_of code.GateTaken = pure.GateTaken
phase_of code.Done = pure.Done
phase_of code.Told = pure.Told
phase_of code.Abandoned = pure.Abandoned
