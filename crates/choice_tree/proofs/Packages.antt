-- The packages that stand on lines.
use Rattle.std.proofs.Common.{◌≡◌, ◌||◌, ◌++◌, ℕ, zero, suc, Bool, List, [], ◌∷◌, Option, None, Some, map, refl, sym, ap, arith, ◌+◌, ◌∙◌}
use Rattle.std.specs.List.{flat_map, list_any}
use Rattle.std.proofs.lemmas.Grind.{flat_map-append}
use Rattle.std.proofs.lemmas.List.{append-nil}
use Rattle.dep_atom.specs.declared.package.Facts.{Facts}
use Rattle.pkg_state.specs.Consistent.{facts_of}
use Rattle.pkg_state.specs.Package.{Package}
use Rattle.choice_law.specs.Universe.{Filling, Universe, as_list, lines, offer_at, package_of, packages, packages_below}
use Rattle.choice_law.specs.Tree.{Choice, filling}
use Rattle.choice_tree.specs.Places.{Place, is_one, numbers, package_in, packages_in, place_at, places}
use Rattle.choice_tree.proofs.Numbers.{numbers_last}

pub any_map : {A B : Type 0} (f : B → Bool) (g : A → B) (xs : List A) → list_any f (map g xs) ≡ list_any (λ x. f (g x)) xs
any_map f g [] = refl
any_map f g (x ∷ xs) = ap (λ (b : Bool). f (g x) || b) (any_map f g xs)

one_any : (test : Facts → Bool) (x : Option Package) (rest : List Package) → list_any test (facts_of (as_list x ++ rest)) ≡ (is_one (λ p. test p.facts) x || list_any test (facts_of rest))
one_any test None rest = refl
one_any test (Some p) rest = refl

-- a test of what stands there is a test line by line
pub any_here : (test : Facts → Bool) (ss : List Place) → list_any test (facts_of (packages_in ss)) ≡ list_any (λ s. is_one (λ p. test p.facts) (package_in s)) ss
any_here test [] = refl
any_here test (s ∷ ss) =
    one_any test (package_in s) (packages_in ss) ∙ ap (λ (b : Bool). is_one (λ p. test p.facts) (package_in s) || b) (any_here test ss)

pub flat_map_map : {A B C : Type 0} (f : B → List C) (g : A → B) (xs : List A) → flat_map f (map g xs) ≡ flat_map (λ x. f (g x)) xs
flat_map_map f g [] = refl
flat_map_map f g (x ∷ xs) = ap (λ l. f (g x) ++ l) (flat_map_map f g xs)

-- one line more
pub row_more : (one : ℕ → List Package) (n : ℕ) → flat_map one (numbers n 0) ++ one n ≡ flat_map one (numbers (suc n) 0)
row_more one n =
    ap (λ (ps : List Package). flat_map one (numbers n 0) ++ ps) (sym (append-nil (one n)))
    ∙ (ap (λ (k : ℕ). flat_map one (numbers n 0) ++ flat_map one (k ∷ [])) (let z : n ≡ 0 + n = omega arith in z)
    ∙ (sym (flat_map-append one (numbers n 0) ((0 + n) ∷ []))
    ∙ ap (λ (xs : List ℕ). flat_map one xs) (sym (numbers_last n 0))))

module _ (u : Universe) (f : Filling) where
  abbrev one : ℕ → List Package
  one l = as_list (package_of (offer_at u l) (f l))

  below_are : (n : ℕ) → packages_below u f n ≡ flat_map one (numbers n 0)
  below_are zero = refl
  below_are (suc n) = ap (λ (ps : List Package). ps ++ one n) (below_are n) ∙ row_more one n

-- those of the laws are those on the lines
pub packages_are : (u : Universe) (c : Choice) → packages u (filling u c) ≡ packages_in (places u c)
packages_are u c =
    below_are u (filling u c) (lines u) ∙ sym (flat_map_map (λ s. as_list (package_in s)) (place_at u c) (numbers (lines u) 0))
