use Rattle.std.proofs.Common.{◌≡◌, ◌||◌, ℕ, length, map, drop, nat_eq}
use Rattle.plan_lives.specs.Reaching.{has_bit, some_row}
use Rattle.plan_lives.proofs.reach.row_of.Given as goal

abbrev pub invariant-loop-h : goal.invariant-loop-h
invariant-loop-h l = (length l.row.items ≡ l.width) × ((k : ℕ) → (some_row (map (λ v. v.items) l.rows) (drop l.h-index l.after) k || has_bit l.row.items k) ≡ (some_row (map (λ v. v.items) l.rows) l.after k || nat_eq k l.g))
