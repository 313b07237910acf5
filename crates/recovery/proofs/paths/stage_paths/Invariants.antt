use Rattle.std.proofs.Common.{◌≡◌, length}
use Rattle.recovery.specs.Stages.{stages_from}
use Rattle.recovery.proofs.paths.stage_paths.Given as goal

abbrev pub invariant-loop-index : goal.invariant-loop-index
invariant-loop-index l = (l.paths.items ≡ stages_from l.group 0 l.index) × (length l.paths.items ≡ l.index)
