use Rattle.std.proofs.Common.{◌&&◌, ◌||◌, false, get_or}
use Rattle.merge_graph.specs.Closure.{IsRow}
use Rattle.merge_graph.proofs.closure.row_with.Given as goal

abbrev pub invariant-loop-other : goal.invariant-loop-other
invariant-loop-other l = IsRow l.other (λ y. get_or l.row y false || (get_or l.row l.from false && get_or l.far y false)) l.more.items
