-- Which texts a search by their bytes finds.
use Rattle.std.specs.Prelude.{bytes_eq}
use Rattle.std.specs.List.{list_any}
use Rattle.std.proofs.Common.{◌≡◌, ◌||◌, Bool, true, false, List, [], ◌∷◌, ap, inl, inr, refl, ◌∙◌, ℕ}
use Rattle.basics.specs.Members.{Has}
use Rattle.basics.proofs.Tests.{or_rest}
use Rattle.std.proofs.lemmas.Bool.{cases_Bool}
use Rattle.std.proofs.lemmas.Slice.Eq.{bytes_eq-Decides}
use Rattle.basics.proofs.Texts.{bytes_eq-same}

pub has-from_any : (xs : List (List ℕ)) (x : List ℕ) → list_any (λ (y : List ℕ). bytes_eq y x) xs ≡ true → Has xs x
has-from_any [] x e = absurd (cc e)
has-from_any (y ∷ xs) x e = elim (cases_Bool (bytes_eq y x)) [
  | inl same ↦ inl ((bytes_eq-Decides y x).0 same)
  | inr other ↦ inr (has-from_any xs x (or_rest (bytes_eq y x) (list_any (λ (z : List ℕ). bytes_eq z x) xs) other e))
]

pub any-from_has : (xs : List (List ℕ)) (x : List ℕ) → Has xs x → list_any (λ (y : List ℕ). bytes_eq y x) xs ≡ true
any-from_has [] x h = absurd h
any-from_has (y ∷ xs) x (inl e) = ap (λ (b : Bool). b || list_any (λ (z : List ℕ). bytes_eq z x) xs) (ap (λ (z : List ℕ). bytes_eq z x) e ∙ bytes_eq-same x)
any-from_has (y ∷ xs) x (inr h) = ap (λ (b : Bool). bytes_eq y x || b) (any-from_has xs x h) ∙ or_true (bytes_eq y x)
  where
    or_true : (b : Bool) → (b || true) ≡ true
    or_true true = refl
    or_true false = refl
