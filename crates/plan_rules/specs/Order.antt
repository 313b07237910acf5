-- The order in which packages are tried, and a rule that is tried in the order of a list's keys.
use Rattle.std.specs.Prelude.{◌≡◌, ℕ, ◌+◌, Bool, List, ◌∷◌, Option, None, Some, bytes_eq, filter}
use Rattle.std.specs.List.Sorted.{IsPermutation, IsSortedBy}
use Rattle.std.specs.Ordering.{is_lt}
use Rattle.pms_names.specs.Flags.{byte_order}
use Rattle.pkg_state.specs.Package.{Package, line_of}
use Rattle.plan_law.specs.Lives.{Life, Moment, commit, never, opening}
use Rattle.plan_rules.specs.Verdicts.{each}

-- the number of the group that brings what is there from this moment on
abbrev pub number_of : Moment → ℕ
number_of opening = 0
number_of (commit g) = g + 1
number_of never = 0

-- packages go by their lines
abbrev pub package_key : Package → List ℕ
package_key p = line_of p.facts

-- lives go by the groups that bring them, what is there to begin with first, and then by lines
abbrev pub life_key : Life → List ℕ
life_key x = number_of x.birth ∷ line_of x.package_is.facts

-- the key of the one comes first, in bytes
abbrev pub is_before : {A : Type 0} → (A → List ℕ) → A → A → Bool
is_before key a b = is_lt (byte_order (key a) (key b))

-- the second list is the first in the order of the keys, and what has one key stays in its order
pub record AreInOrder {A : Type 0} (key : A → List ℕ) (xs ys : List A) : Type 0 where
  pub moved : IsPermutation xs ys
  pub sorted : IsSortedBy (is_before key) ys
  pub stable : (k : List ℕ) →
      filter (λ x. bytes_eq k (key x)) ys ≡ filter (λ x. bytes_eq k (key x)) xs

-- a rule for each of a list, in the order of the keys
abbrev pub each_by :
    {A E : Type 0} → (A → List ℕ) → List A → (A → Option E → Type 0) → Option E → Type 0
each_by key xs rule None = each xs rule None
each_by {A} key xs rule (Some e) = (ys : List A) × AreInOrder key xs ys × each ys rule (Some e)
