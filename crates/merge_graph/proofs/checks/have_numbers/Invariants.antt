use Rattle.std.proofs.Common.{◌≡◌, ◌<◌, ℕ, get_or, length}
use Rattle.merge_graph.proofs.checks.have_numbers.Given as goal

abbrev pub invariant-loop-number : goal.invariant-loop-number
invariant-loop-number l = (k : ℕ) → k < l.number → (get_or l.firsts k 0 < length l.numbers) × (get_or l.numbers (get_or l.firsts k 0) 0 ≡ k)
