use Rattle.std.proofs.Common.{◌<◌, ◌≤◌, ℕ, get_or, length}
use Rattle.merge_graph.specs.Certified.{first_of}
use Rattle.merge_graph.proofs.checks.have_firsts.Given as goal

abbrev pub invariant-loop-node : goal.invariant-loop-node
invariant-loop-node l = (x : ℕ) → x < l.node → (get_or l.numbers x 0 < length l.firsts) × (first_of l.numbers l.firsts x ≤ x)
