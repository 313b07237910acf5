-- Lists that are put together from pieces, and lists of pairs.
use Rattle.std.proofs.Common.{◌≡◌, ◌∙◌, List, [], ◌∷◌, ap, inl, inr, map, refl, subst, sym}
use Rattle.std.specs.List.{AllZip}
use Rattle.std.specs.Prelude.{flat_map}
use Rattle.basics.specs.Members.{AreDistinct, Has}
use Rattle.basics.proofs.Membership.{distinct-apart, has-append_cases, has-append_left, has-append_right}
use Rattle.law_package.proofs.Places.{distinct_back, distinct_front}

-- ---- pieces

module _ {A B : Type 0} (f : A → List B) where
  pub has-piece : (xs : List A) (x : A) (y : B) → Has xs x → Has (f x) y → Has (flat_map f xs) y
  has-piece [] x y there has = absurd there
  has-piece (z ∷ xs) x y (inl e) has = has-append_left (f z) (flat_map f xs) y (subst (λ (w : A). Has (f w) y) (sym e) has)
  has-piece (z ∷ xs) x y (inr there) has = has-append_right (f z) (flat_map f xs) y (has-piece xs x y there has)

  pub has-piece_back : (xs : List A) (y : B) → Has (flat_map f xs) y → (x : A) × Has xs x × Has (f x) y
  has-piece_back [] y has = absurd has
  has-piece_back (z ∷ xs) y has = elim (has-append_cases (f z) (flat_map f xs) y has) [
    | inl here ↦ (z, inl refl, here)
    | inr later ↦ (let k = has-piece_back xs y later in (k.0, inr k.1, k.2))
  ]

  -- pieces that are distinct together are each distinct
  pub distinct_piece : (xs : List A) (x : A) → AreDistinct (flat_map f xs) → Has xs x → AreDistinct (f x)
  distinct_piece [] x distinct has = absurd has
  distinct_piece (z ∷ xs) x distinct (inl e) = subst (λ (w : A). AreDistinct (f w)) e (distinct_front (f z) (flat_map f xs) distinct)
  distinct_piece (z ∷ xs) x distinct (inr has) = distinct_piece xs x (distinct_back (f z) (flat_map f xs) distinct) has

  -- .. and no two of them have a member in common
  pub one_piece : (xs : List A) (x y : A) (b : B) → AreDistinct (flat_map f xs) → Has xs x → Has xs y → Has (f x) b → Has (f y) b → x ≡ y
  one_piece [] x y b distinct hx hy in_x in_y = absurd hx
  one_piece (z ∷ xs) x y b distinct (inl e) (inl g) in_x in_y = sym e ∙ g
  one_piece (z ∷ xs) x y b distinct (inl e) (inr h) in_x in_y = absurd (distinct-apart (f z) (flat_map f xs) b distinct (subst (λ (w : A). Has (f w) b) (sym e) in_x) (has-piece xs y b h in_y))
  one_piece (z ∷ xs) x y b distinct (inr h) (inl g) in_x in_y = absurd (distinct-apart (f z) (flat_map f xs) b distinct (subst (λ (w : A). Has (f w) b) (sym g) in_y) (has-piece xs x b h in_x))
  one_piece (z ∷ xs) x y b distinct (inr h) (inr k) in_x in_y = one_piece xs x y b (distinct_back (f z) (flat_map f xs) distinct) h k in_x in_y

-- ---- pairs

module _ {A B : Type 0} where
  abbrev pub left : A × B → A
  left z = z.0

  abbrev pub right : A × B → B
  right z = z.1

  -- two lists are those of some pairs, and R holds of each pair
  pub record ArePairs (R : A → B → Type 0) (xs : List A) (ys : List B) : Type 0 where
    pub pairs : List (A × B)
    pub lefts : map left pairs ≡ xs
    pub rights : map right pairs ≡ ys
    pub each : (z : A × B) → Has pairs z → R z.0 z.1

  pub pairs_of : (R : A → B → Type 0) (xs : List A) (ys : List B) → AllZip R xs ys → ArePairs R xs ys
  pairs_of R [] [] all = record { pairs = []; lefts = refl; rights = refl; each = λ z has. absurd has }
  pairs_of R [] (y ∷ ys) all = absurd all
  pairs_of R (x ∷ xs) [] all = absurd all
  pairs_of R (x ∷ xs) (y ∷ ys) all =
      let k = pairs_of R xs ys all.1 in
      record {
        pairs = (x, y) ∷ k.pairs;
        lefts = ap (λ (l : List A). x ∷ l) k.lefts;
        rights = ap (λ (l : List B). y ∷ l) k.rights;
        each = λ z has. elim has [ inl e ↦ subst (λ (w : A × B). R w.0 w.1) e all.0 | inr later ↦ k.each z later ];
      }

  pub both_zip : (R S : A → B → Type 0) (xs : List A) (ys : List B) → AllZip R xs ys → AllZip S xs ys → AllZip (λ x y. R x y × S x y) xs ys
  both_zip R S [] [] all more = tt
  both_zip R S [] (y ∷ ys) all more = absurd all
  both_zip R S (x ∷ xs) [] all more = absurd all
  both_zip R S (x ∷ xs) (y ∷ ys) all more = ((all.0, more.0), both_zip R S xs ys all.1 more.1)
