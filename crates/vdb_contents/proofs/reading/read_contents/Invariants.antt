use Rattle.std.proofs.Common.{length}
use Rattle.vdb_contents.proofs.Progress.{IsReadTo}
use Rattle.vdb_contents.proofs.reading.read_contents.Given as goal

abbrev pub invariant-loop-line : goal.invariant-loop-line
invariant-loop-line l = IsReadTo l.text l.rest l.number l.reading.taken l.reading.owned.items

abbrev pub decreases-loop-line : goal.decreases-loop-line
decreases-loop-line l = length l.rest
