-- Where a stretch of bytes ends, and lists of parts that are spelled the same.
use Rattle.std.proofs.Common.{◌≡◌, ◌∙◌, ℕ, Bool, true, false, List, [], ◌∷◌, ◌++◌, ap, append-nil, append_assoc, refl, subst, sym}
use Rattle.std.specs.List.{AllByRecursion, flat_map}
use Rattle.std.proofs.lemmas.Bool.{both_ways}
use Rattle.basics.proofs.Lists.{heads, tails}
use Rattle.config_text.specs.Follow.{Follow, Stops}

pub stopped : (test : ℕ → Bool) (b : ℕ) (r more : List ℕ) → test b ≡ true → Stops test r → r ≡ b ∷ more → ⊥
stopped test b [] more passes stops e = absurd (cc)
stopped test b (c ∷ r) more passes stops e =
    both_ways (test b) (subst (λ x. test x ≡ false) (heads c b r more e) stops) passes

-- a stretch of bytes that pass ends at the first that doesn't
pub one_stretch : (test : ℕ → Bool) (a b r s : List ℕ) → AllByRecursion (λ x. test x ≡ true) a → AllByRecursion (λ x. test x ≡ true) b → Stops test r → Stops test s → a ++ r ≡ b ++ s → (a ≡ b) × (r ≡ s)
one_stretch test [] [] r s h k m n e = (refl, e)
one_stretch test [] (b ∷ bs) r s h k m n e = absurd (stopped test b r (bs ++ s) k.0 m e)
one_stretch test (a ∷ as') [] r s h k m n e = absurd (stopped test a s (as' ++ r) h.0 n (sym e))
one_stretch test (a ∷ as') (b ∷ bs) r s h k m n e =
    let rest : (as' ≡ bs) × (r ≡ s) = one_stretch test as' bs r s h.1 k.1 m n (tails a b (as' ++ r) (bs ++ s) e) in
    (ap (λ x. x ∷ as') (heads a b (as' ++ r) (bs ++ s) e) ∙ ap (λ l. b ∷ l) rest.0, rest.1)

-- a byte that doesn't pass is in no stretch of those that do
pub not_inside : (test : ℕ → Bool) (a b r : List ℕ) (x : ℕ) → AllByRecursion (λ y. test y ≡ true) a → test x ≡ false → a ≡ b ++ (x ∷ r) → ⊥
not_inside test [] [] r x h f e = absurd (cc)
not_inside test [] (b ∷ bs) r x h f e = absurd (cc)
not_inside test (a ∷ as') [] r x h f e = both_ways (test x) f (subst (λ y. test y ≡ true) (heads a x as' r e) h.0)
not_inside test (a ∷ as') (b ∷ bs) r x h f e = not_inside test as' bs r x h.1 f (tails a b as' (bs ++ (x ∷ r)) e)

module _ {A : Type 0} (IsIn : A → List ℕ → Type 0) (spell : A → List ℕ) (one : (x y : A) (r s : List ℕ) → IsIn x r → IsIn y s → spell x ++ r ≡ spell y ++ s → (x ≡ y) × (r ≡ s)) where
  -- of two lists that are spelled the same the one that ends begins with the other
  pub onward : (xs ys : List A) (r s : List ℕ) → ((x : A) (t : List ℕ) → IsIn x t → spell x ++ t ≡ s → ⊥) → Follow IsIn spell xs r → Follow IsIn spell ys s → flat_map spell xs ++ r ≡ flat_map spell ys ++ s → (zs : List A) × (ys ≡ xs ++ zs) × Follow IsIn spell zs s × (r ≡ flat_map spell zs ++ s)
  onward [] ys r s end f g e = (ys, refl, g, e)
  onward (x ∷ xs) [] r s end f g e = absurd (end x (flat_map spell xs ++ r) f.0 (sym (append_assoc (spell x) (flat_map spell xs) r) ∙ e))
  onward (x ∷ xs) (y ∷ ys) r s end f g e =
      let first : (x ≡ y) × (flat_map spell xs ++ r ≡ flat_map spell ys ++ s) =
      one x y (flat_map spell xs ++ r) (flat_map spell ys ++ s) f.0 g.0 (sym (append_assoc (spell x) (flat_map spell xs) r) ∙ (e ∙ append_assoc (spell y) (flat_map spell ys) s)) in
      let rest : (zs : List A) × (ys ≡ xs ++ zs) × Follow IsIn spell zs s × (r ≡ flat_map spell zs ++ s) = onward xs ys r s end f.1 g.1 first.1 in
      (rest.0, ap (λ z. z ∷ ys) (sym first.0) ∙ ap (λ l. x ∷ l) rest.1, rest.2, rest.3)

  no_more : (zs : List A) (r s : List ℕ) → ((x : A) (t : List ℕ) → IsIn x t → spell x ++ t ≡ r → ⊥) → Follow IsIn spell zs s → r ≡ flat_map spell zs ++ s → zs ≡ []
  no_more [] r s end f e = refl
  no_more (z ∷ zs) r s end f e = absurd (end z (flat_map spell zs ++ s) f.0 (sym (append_assoc (spell z) (flat_map spell zs) s) ∙ sym e))

  append_none : (xs zs : List A) → zs ≡ [] → xs ++ zs ≡ xs
  append_none xs zs e = ap (λ l. xs ++ l) e ∙ append-nil xs

  -- two that end are the same
  pub same_list : (xs ys : List A) (r s : List ℕ) → ((x : A) (t : List ℕ) → IsIn x t → spell x ++ t ≡ r → ⊥) → ((x : A) (t : List ℕ) → IsIn x t → spell x ++ t ≡ s → ⊥) → Follow IsIn spell xs r → Follow IsIn spell ys s → flat_map spell xs ++ r ≡ flat_map spell ys ++ s → (xs ≡ ys) × (r ≡ s)
  same_list xs ys r s ends end f g e =
      let rest : (zs : List A) × (ys ≡ xs ++ zs) × Follow IsIn spell zs s × (r ≡ flat_map spell zs ++ s) = onward xs ys r s end f g e in
      let none : rest.0 ≡ [] = no_more rest.0 r s ends rest.2 rest.3 in
      (sym (rest.1 ∙ append_none xs rest.0 none), rest.3 ∙ ap (λ zs. flat_map spell zs ++ s) none)
