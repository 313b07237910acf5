-- Lists that go together place by place.
use Rattle.std.proofs.Common.{◌≡◌, ◌∙◌, ◌++◌, List, [], ◌∷◌, ap, inl, inr, map, refl, subst}
use Rattle.std.specs.List.{AllZip}
use Rattle.std.specs.Prelude.{flat_map}
use Rattle.std.proofs.lemmas.List.{map-append}
use Rattle.basics.specs.Members.{AreDistinct, Has}
use Rattle.basics.proofs.Membership.{has-map, has-map_back}
use Rattle.law_package.proofs.Places.{distinct_back, distinct_front}

module _ {A B : Type 0} where
  -- a choice for each member is a list of choices
  pub chosen : (P : A → B → Type 0) (xs : List A) → ((x : A) → Has xs x → (y : B) × P x y) → (ys : List B) × AllZip P xs ys
  chosen P [] each = ([], tt)
  chosen P (x ∷ xs) each =
      let one = each x (inl refl) in
      let others = chosen P xs (λ y has. each y (inr has)) in
      (one.0 ∷ others.0, (one.1, others.1))

  pub zip_same : {C : Type 0} (f : A → C) (g : B → C) (xs : List A) (ys : List B) → AllZip (λ x y. f x ≡ g y) xs ys → map f xs ≡ map g ys
  zip_same f g [] [] all = refl
  zip_same f g [] (y ∷ ys) all = absurd all
  zip_same f g (x ∷ xs) [] all = absurd all
  zip_same {C = C} f g (x ∷ xs) (y ∷ ys) all = ap (λ (c : C). c ∷ map f xs) all.0 ∙ ap (λ (l : List C). g y ∷ l) (zip_same f g xs ys all.1)

  pub zip_weaker : {C : Type 0} (P : A → B → Type 0) (Q : C → B → Type 0) (f : A → C) → ((x : A) (y : B) → P x y → Q (f x) y) → (xs : List A) (ys : List B) → AllZip P xs ys → AllZip Q (map f xs) ys
  zip_weaker P Q f so [] [] all = tt
  zip_weaker P Q f so [] (y ∷ ys) all = absurd all
  zip_weaker P Q f so (x ∷ xs) [] all = absurd all
  zip_weaker P Q f so (x ∷ xs) (y ∷ ys) all = (so x y all.0, zip_weaker P Q f so xs ys all.1)

  -- one more on both lists
  pub zip_push : (P : A → B → Type 0) (xs : List A) (ys : List B) (x : A) (y : B) → AllZip P xs ys → P x y → AllZip P (xs ++ x ∷ []) (ys ++ y ∷ [])
  zip_push P [] [] x y all p = (p, tt)
  zip_push P [] (b ∷ ys) x y all p = absurd all
  zip_push P (a ∷ xs) [] x y all p = absurd all
  zip_push P (a ∷ xs) (b ∷ ys) x y all p = (all.0, zip_push P xs ys x y all.1 p)

module _ {A B C : Type 0} (f : A → B) (h : A → C) where
  -- members that f takes to one are those that h takes to one
  pub distinct_by : (xs : List A) → ((x y : A) → Has xs x → Has xs y → f x ≡ f y → h x ≡ h y) → AreDistinct (map h xs) → AreDistinct (map f xs)
  distinct_by [] same distinct = tt
  distinct_by (x ∷ xs) same distinct = (
    λ has.
        let k = has-map_back f xs (f x) has in
        distinct.0 (subst (λ (c : C). Has (map h xs) c) (same k.0 x (inr k.1) (inl refl) k.2) (has-map h xs k.0 k.1)),
    distinct_by xs (λ y z hy hz e. same y z (inr hy) (inr hz) e) distinct.1,
  )

-- what the pieces have is distinct where all is
pub distinct_in_piece : {A B C : Type 0} (f : B → C) (g : A → List B) (xs : List A) (x : A) → AreDistinct (map f (flat_map g xs)) → Has xs x → AreDistinct (map f (g x))
distinct_in_piece f g [] x distinct has = absurd has
distinct_in_piece {A = A} {C = C} f g (y ∷ xs) x distinct (inl e) =
    subst (λ (z : A). AreDistinct (map f (g z))) e
    (distinct_front (map f (g y)) (map f (flat_map g xs)) (subst (λ (l : List C). AreDistinct l) (map-append f (g y) (flat_map g xs)) distinct))
distinct_in_piece {C = C} f g (y ∷ xs) x distinct (inr has) =
    distinct_in_piece f g xs x (distinct_back (map f (g y)) (map f (flat_map g xs)) (subst (λ (l : List C). AreDistinct l) (map-append f (g y) (flat_map g xs)) distinct)) has
