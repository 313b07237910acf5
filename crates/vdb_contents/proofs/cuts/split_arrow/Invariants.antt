use Rattle.vdb_contents.proofs.Arrows.{NoneBefore}
use Rattle.vdb_contents.proofs.cuts.split_arrow.Given as goal

abbrev pub invariant-loop-at : goal.invariant-loop-at
invariant-loop-at l = NoneBefore l.text l.at
