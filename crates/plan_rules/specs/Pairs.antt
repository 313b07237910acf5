-- Pairs of groups that change one line, and their order.
use Rattle.std.specs.Prelude.{ℕ, List}
use Rattle.std.specs.Cmp.Lexicographic.{slice_cmp}
use Rattle.std.specs.Ordering.{nat_cmp, on, then_cmp}
use Rattle.std.specs.declared.cmp.Ordering.{Ordering}

-- a line, and two groups by their places in the plan
pub record Pair : Type 0 where
  pub line : List ℕ
  pub lower : ℕ
  pub higher : ℕ

-- pairs go by the line, then by the lower and then by the higher group
abbrev pub pair_cmp : Pair → Pair → Ordering
pair_cmp =
    then_cmp (then_cmp (on (λ p. p.line) (slice_cmp nat_cmp)) (on (λ p. p.lower) nat_cmp))
    (on (λ p. p.higher) nat_cmp)
