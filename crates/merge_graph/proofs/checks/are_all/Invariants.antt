use Rattle.std.proofs.Common.{◌≡◌, ◌<◌, ℕ, false, get_or, true}
use Rattle.merge_graph.proofs.checks.are_all.Given as goal

abbrev pub invariant-loop-mark : goal.invariant-loop-mark
invariant-loop-mark l = (k : ℕ) → k < l.mark-index → get_or l.marks k false ≡ true
