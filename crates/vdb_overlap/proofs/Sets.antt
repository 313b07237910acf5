-- Sets of texts as the lists of their keys, which rise in byte order.
use Rattle.std.proofs.Common.{◌≡◌, ◌⊎◌, ◌∙◌, ℕ, true, false, List, [], ◌∷◌, ◌++◌, ap, sym, subst, inl, inr}
use Rattle.std.specs.BTreeSet.{insert_key}
use Rattle.std.specs.Cmp.Lexicographic.{same_text, texts_ties}
use Rattle.std.specs.List.Sorted.{IsStrictlySortedBy}
use Rattle.std.specs.Ordering.{is_eq, is_gt, is_lt, match_ordering, ordering_reverse}
use Rattle.std.specs.declared.cmp.Ordering.{Ordering}
use Rattle.std.specs.declared.cmp.Ordering.TheVariants.{Less, Equal, Greater}
use Rattle.std.proofs.lemmas.Cmp.{nat_list_cmp_total}
use Rattle.basics.specs.Members.{Has}
use Rattle.basics.proofs.Orderings.{less_of, ordering_cases}
use Rattle.basics.proofs.Each.{all_has}
use Rattle.pms_names.specs.Flags.{IsRising, byte_order}

-- of two texts one is before the other, or they are one
pub text_cases : (x y : List ℕ) → (byte_order x y ≡ Less) ⊎ ((x ≡ y) ⊎ (byte_order y x ≡ Less))
text_cases x y = elim (ordering_cases (byte_order x y)) [
  | inl e ↦ inl e
  | inr (inl e) ↦ inr (inl (same_text x y (sym (texts_ties x y ∙ ap is_eq e))))
  | inr (inr e) ↦ inr (inr (nat_list_cmp_total.antisymm y x ∙ ap ordering_reverse e))
]

-- what is before a text is before each that isn't before that one
pub less_further : (s r k : List ℕ) → byte_order s r ≡ Less → (byte_order k r ≡ Less → ⊥) → byte_order s k ≡ Less
less_further s r k less not-before = elim (text_cases k r) [
  | inl e ↦ absurd (not-before e)
  | inr (inl same) ↦ subst (λ (x : List ℕ). byte_order s x ≡ Less) (sym same) less
  | inr (inr e) ↦ nat_list_cmp_total.trans s r k less e
]

pub not_greater : (k s : List ℕ) → is_gt (byte_order k s) ≡ false → byte_order s k ≡ Less → ⊥
not_greater k s h less =
    let e : byte_order k s ≡ Greater = nat_list_cmp_total.antisymm k s ∙ ap ordering_reverse less in
    let g : is_gt (byte_order k s) ≡ true = ap is_gt e in
    cc

module _ (k : List ℕ) where
  abbrev with : List (List ℕ) → List (List ℕ)
  with xs = insert_key byte_order xs k

  step : (x : List ℕ) (xs : List (List ℕ)) (o : Ordering) → byte_order k x ≡ o → with (x ∷ xs) ≡ match_ordering o (k ∷ x ∷ xs) (x ∷ xs) (x ∷ with xs)
  step x xs o e = ap (λ (p : Ordering). match_ordering p (k ∷ x ∷ xs) (x ∷ xs) (x ∷ with xs)) e

  -- a text of the set with one more is the new one, or was there
  pub was_there : (xs : List (List ℕ)) (t : List ℕ) → Has (with xs) t → (k ≡ t) ⊎ Has xs t
  was_there [] t (inl e) = inl e
  was_there [] t (inr none) = absurd none
  was_there (x ∷ xs) t has = elim (ordering_cases (byte_order k x)) [
    | inl e ↦ subst (λ (l : List (List ℕ)). Has l t) (step x xs Less e) has
    | inr (inl e) ↦ inr (subst (λ (l : List (List ℕ)). Has l t) (step x xs Equal e) has)
    | inr (inr e) ↦ (
        let h : Has (x ∷ with xs) t = subst (λ (l : List (List ℕ)). Has l t) (step x xs Greater e) has in
        elim h [ inl same ↦ inr (inl same) | inr later ↦ elim (was_there xs t later) [ inl same ↦ inl same | inr there ↦ inr (inr there) ] ])
  ]

  -- and each of these is in it
  pub is_there : (xs : List (List ℕ)) (t : List ℕ) → (k ≡ t) ⊎ Has xs t → Has (with xs) t
  is_there [] t (inl e) = inl e
  is_there [] t (inr none) = absurd none
  is_there (x ∷ xs) t has = elim (ordering_cases (byte_order k x)) [
    | inl e ↦ subst (λ (l : List (List ℕ)). Has l t) (sym (step x xs Less e)) has
    | inr (inl e) ↦ (
        let same : k ≡ x = same_text k x (sym (texts_ties k x ∙ ap is_eq e)) in
        subst (λ (l : List (List ℕ)). Has l t) (sym (step x xs Equal e)) (elim has [ inl is ↦ inl (sym same ∙ is) | inr there ↦ there ]))
    | inr (inr e) ↦ subst (λ (l : List (List ℕ)). Has l t) (sym (step x xs Greater e)) (elim has [
      | inl is ↦ inr (is_there xs t (inl is))
      | inr (inl is) ↦ inl is
      | inr (inr later) ↦ inr (is_there xs t (inr later))
    ])
  ]

-- what stands behind a text of a rising list is greater
pub behind_later : (front : List (List ℕ)) (x : List ℕ) (behind : List (List ℕ)) (t : List ℕ) → IsRising (front ++ (x ∷ behind)) → Has behind t → byte_order x t ≡ Less
unfolding IsStrictlySortedBy
behind_later [] x behind t rising has = all_has (λ (z : List ℕ). byte_order x z ≡ Less) behind t rising.0 has
behind_later (y ∷ front) x behind t rising has = behind_later front x behind t rising.1 has

pub if_less : (x y : List ℕ) → is_lt (byte_order x y) ≡ true → byte_order x y ≡ Less
if_less x y h = less_of (byte_order x y) h

pub not_less_if : (x y : List ℕ) → is_lt (byte_order x y) ≡ false → byte_order x y ≡ Less → ⊥
not_less_if x y h less = let g : is_lt (byte_order x y) ≡ true = ap is_lt less in cc
