-- What is known of each line under a choice.
use Rattle.std.specs.Prelude.{ℕ, zero, suc, Bool, false, List, [], ◌∷◌, Option, None, Some, get_or, map, slice_set, unwrap_or}
use Rattle.std.specs.List.{flat_map}
use Rattle.pkg_state.specs.Package.{Package}
use Rattle.choice_law.specs.Universe.{Offer, Universe, Value, as_list, lines, no_offer, offer_at, package_of, standing}
use Rattle.choice_law.specs.Tree.{Choice, decided}

-- so many numbers, from this one on
abbrev pub numbers : ℕ → ℕ → List ℕ
numbers zero k = []
numbers (suc n) k = k ∷ numbers n (suc k)

-- a package is there, and passes the test
abbrev pub is_one : {A : Type 0} → (A → Bool) → Option A → Bool
is_one test None = false
is_one test (Some a) = test a

-- what is offered on a line, and what is decided of it
pub record Place : Type 0 where
  pub decided : Option Value
  pub offer : Offer

abbrev pub no_place : Place
no_place = record { decided = None; offer = no_offer }

-- a line that isn't decided is as it is
abbrev pub value_in : Place → Value
value_in s = unwrap_or s.decided (standing s.offer.installed)

-- the package that stands there
abbrev pub package_in : Place → Option Package
package_in s = package_of s.offer (value_in s)

abbrev pub place_at : Universe → Choice → ℕ → Place
place_at u c l = record { decided = decided c l; offer = offer_at u l }

-- all lines, in their order
abbrev pub places : Universe → Choice → List Place
places u c = map (place_at u c) (numbers (lines u) 0)

-- the packages that stand on them
abbrev pub packages_in : List Place → List Package
packages_in ss = flat_map (λ s. as_list (package_in s)) ss

-- the line has this decision in place of the one that it had
abbrev pub with_decided : List Place → ℕ → Option Value → List Place
with_decided ss l d = slice_set ss l (record { decided = d; offer = (get_or ss l no_place).offer })
