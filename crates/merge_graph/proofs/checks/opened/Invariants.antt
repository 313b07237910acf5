use Rattle.std.proofs.Common.{◌≡◌, length, take}
use Rattle.merge_graph.specs.Certified.{AreOpened}
use Rattle.merge_graph.proofs.checks.opened.Given as goal

abbrev pub invariant-loop-edge : goal.invariant-loop-edge
invariant-loop-edge l = (length l.opened.items ≡ l.count) × AreOpened l.numbers (take l.edge-index l.edges) l.opened.items
