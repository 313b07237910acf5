use Rattle.std.proofs.Common.{◌≡◌, length}
use Rattle.merge_graph.specs.Certified.{AreMarkedReached}
use Rattle.merge_graph.proofs.checks.are_reached.Given as goal

abbrev pub invariant-loop-place : goal.invariant-loop-place
invariant-loop-place l = (length l.marks.items ≡ length l.numbers) × AreMarkedReached l.numbers l.firsts l.edges l.marks.items
