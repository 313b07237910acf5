use Rattle.std.proofs.Common.{◌≡◌, length}
use Rattle.merge_graph.specs.Certified.{AreMarkedReached}
use Rattle.merge_graph.proofs.checks.marked_firsts.Given as goal

abbrev pub invariant-loop-first : goal.invariant-loop-first
invariant-loop-first l = (length l.marks.items ≡ length l.numbers) × AreMarkedReached l.numbers l.firsts l.edges l.marks.items
