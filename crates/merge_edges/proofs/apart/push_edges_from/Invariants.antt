use Rattle.std.proofs.Common.{◌≡◌, ◌++◌, drop}
use Rattle.merge_edges.specs.Found.{edges_from}
use Rattle.merge_edges.proofs.apart.push_edges_from.Given as goal

abbrev pub invariant-loop-from : goal.invariant-loop-from
invariant-loop-from l = l.out.items ++ edges_from l.to (drop l.from-index l.lines) ≡ l.fn.out.items ++ edges_from l.to l.lines
