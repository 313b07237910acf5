use Rattle.std.proofs.Common.{map}
use Rattle.merge_journal.specs.Judging.{path_of}
use Rattle.merge_journal.proofs.Free.{Walk}
use Rattle.merge_journal.proofs.judging.take_placements.Given as goal

abbrev pub invariant-loop-placement : goal.invariant-loop-placement
invariant-loop-placement l = Walk l.initial.taken l.taken (map path_of l.placements) l.placement-index
