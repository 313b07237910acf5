use Rattle.std.proofs.Common.{◌≡◌, ◌++◌, drop}
use Rattle.merge_edges.specs.Found.{edges_to}
use Rattle.merge_edges.proofs.coming.push_edges.Given as goal

abbrev pub invariant-loop-to : goal.invariant-loop-to
invariant-loop-to l = l.out.items ++ edges_to l.from l.builds (drop l.to-index l.lines) ≡ l.fn.out.items ++ edges_to l.from l.builds l.lines
