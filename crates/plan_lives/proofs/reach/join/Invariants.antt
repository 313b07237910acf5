use Rattle.std.proofs.Common.{◌≡◌, ◌<◌, ◌≤◌, ℕ, length, get_or}
use Rattle.std.specs.Prelude.{bit_or}
use Rattle.plan_lives.proofs.reach.join.Given as goal

abbrev pub invariant-loop-i : goal.invariant-loop-i
invariant-loop-i l = (length l.row.items ≡ length l.fn.row.items) × ((j : ℕ) → j < l.i → get_or l.row.items j 0 ≡ bit_or (get_or l.fn.row.items j 0) (get_or l.other j 0)) × ((j : ℕ) → l.i ≤ j → get_or l.row.items j 0 ≡ get_or l.fn.row.items j 0)
