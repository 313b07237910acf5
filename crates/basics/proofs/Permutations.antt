-- What a list in another order keeps.
use Rattle.std.specs.Prelude.{bytes_eq}
use Rattle.std.specs.List.{AllByRecursion, IsDistinct}
use Rattle.std.specs.List.Sorted.{IsPermutation}
use Rattle.std.proofs.Common.{◌≡◌, ℕ, false, List, [], ◌∷◌, inl, inr, sym}
use Rattle.std.proofs.lemmas.List.Sorted.{Contains-permutation}
use Rattle.std.proofs.lemmas.Map.Keys.{IsDistinct-IsPermutation}
use Rattle.std.proofs.lemmas.Slice.Eq.{bytes_eq-Decides}
use Rattle.basics.specs.Members.{AreDistinct, Has}
use Rattle.basics.proofs.Membership.{contains-from_has, has-from_contains}
use Rattle.basics.proofs.Texts.{bytes_eq-apart, bytes_eq-swap}

pub has-moved : {A : Type 0} (xs ys : List A) (x : A) → IsPermutation xs ys → Has xs x → Has ys x
has-moved xs ys x perm has = has-from_contains ys x (Contains-permutation xs ys x perm (contains-from_has xs x has))

others_differ : (x : List ℕ) (xs : List (List ℕ)) → ¬ Has xs x → AllByRecursion (λ y. bytes_eq x y ≡ false) xs
others_differ x [] none = tt
others_differ x (y ∷ ys) none = (bytes_eq-apart x y (λ e. none (inl (sym e))), others_differ x ys (λ has. none (inr has)))

all_differ : (xs : List (List ℕ)) → AreDistinct xs → IsDistinct bytes_eq xs
unfolding IsDistinct
all_differ [] d = tt
all_differ (x ∷ xs) d = (others_differ x xs d.0, all_differ xs d.1)

none_same : (x : List ℕ) (xs : List (List ℕ)) → AllByRecursion (λ y. bytes_eq x y ≡ false) xs → Has xs x → ⊥
none_same x [] all has = absurd has
none_same x (y ∷ ys) all (inl e) = cc ((bytes_eq-Decides x y).1 (sym e), all.0)
none_same x (y ∷ ys) all (inr has) = none_same x ys all.1 has

distinct_if : (xs : List (List ℕ)) → IsDistinct bytes_eq xs → AreDistinct xs
unfolding IsDistinct
distinct_if [] d = tt
distinct_if (x ∷ xs) d = (none_same x xs d.0, distinct_if xs d.1)

pub distinct-moved : (xs ys : List (List ℕ)) → IsPermutation xs ys → AreDistinct xs → AreDistinct ys
distinct-moved xs ys perm d = distinct_if ys (IsDistinct-IsPermutation bytes_eq bytes_eq-swap xs ys perm (all_differ xs d))
