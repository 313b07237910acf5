-- Lists of views: what adds up over them, and what no two of them have.
use Rattle.std.proofs.Common.{◌≡◌, ◌⊎◌, ◌≢◌, ◌+◌, ◌≤◌, ◌<◌, ◌%◌, ℕ, zero, suc, List, [], ◌∷◌, ◌++◌, Option, Some, set, length, refl, sym, ap, subst, ◌∙◌, arith, ⊎_elim}
use mathlib.Core.Option.{some, some-injective, some-ne-none}
use lib.ListN.{get_elem?}
use Rattle.atomic_table.proofs.Lists.{at_set, at_snoc}
use Rattle.std.proofs.lemmas.Option.{same_Some}
use Rattle.basics.proofs.Lists.{heads}
use Rattle.site_hall.specs.Rule.{total}

-- what is held first is one value
pub first_held : {A : Type 0} (x y : A) (xs ys : List (ℕ × Option A)) → (0, Some x) ∷ xs ≡ (0, Some y) ∷ ys → x ≡ y
first_held {A} x y xs ys e = same_Some x y (ap (λ (c : ℕ × Option A). c.1) (heads (0, Some x) (0, Some y) xs ys e))

module _ {A : Type 0} where
  -- what stands at one place is one thing
  pub same_at : (l : List A) (i : ℕ) (a b : A) → get_elem? l i ≡ some a → get_elem? l i ≡ some b → a ≡ b
  same_at l i a b ea eb = some-injective a b (sym ea ∙ eb)

  pub at_within : (l : List A) (i : ℕ) (a : A) → get_elem? l i ≡ some a → i < length l
  at_within [] i a e = absurd (some-ne-none a (sym e))
  at_within (x ∷ xs) zero a e = omega arith
  at_within (x ∷ xs) (suc i) a e = let h = at_within xs i a e in omega arith

module _ {A : Type 0} (f : A → ℕ) where
  pub total_set : (l : List A) (i : ℕ) (v w : A) → get_elem? l i ≡ some v → total f (set l i w) + f v ≡ total f l + f w
  total_set [] i v w e = absurd (some-ne-none v (sym e))
  total_set (x ∷ xs) zero v w e = let is : f x ≡ f v = ap f (some-injective x v e) in omega arith
  total_set (x ∷ xs) (suc i) v w e = let r = total_set xs i v w e in omega arith

  pub total_snoc : (l : List A) (a : A) → total f (l ++ a ∷ []) ≡ total f l + f a
  total_snoc [] a = omega arith
  total_snoc (x ∷ xs) a = let r = total_snoc xs a in omega arith

  pub total_at : (l : List A) (i : ℕ) (v : A) → get_elem? l i ≡ some v → f v ≤ total f l
  total_at [] i v e = absurd (some-ne-none v (sym e))
  total_at (x ∷ xs) zero v e = let is : f x ≡ f v = ap f (some-injective x v e) in omega arith
  total_at (x ∷ xs) (suc i) v e = let r = total_at xs i v e in omega arith

  pub total_two : (l : List A) (i j : ℕ) (v w : A) → i ≢ j → get_elem? l i ≡ some v → get_elem? l j ≡ some w → f v + f w ≤ total f l
  total_two [] i j v w n ev ew = absurd (some-ne-none v (sym ev))
  total_two (x ∷ xs) zero zero v w n ev ew = absurd (n refl)
  total_two (x ∷ xs) zero (suc j) v w n ev ew = let is : f x ≡ f v = ap f (some-injective x v ev) in let r = total_at xs j w ew in omega arith
  total_two (x ∷ xs) (suc i) zero v w n ev ew = let is : f x ≡ f w = ap f (some-injective x w ew) in let r = total_at xs i v ev in omega arith
  total_two (x ∷ xs) (suc i) (suc j) v w n ev ew = let r = total_two xs i j v w (λ e. n (ap suc e)) ev ew in omega arith

  pub total_below : (g : A → ℕ) (l : List A) → ((i : ℕ) (v : A) → get_elem? l i ≡ some v → f v ≤ g v) → total f l ≤ total g l
  total_below g [] h = omega arith
  total_below g (x ∷ xs) h = let a = h zero x refl in let r = total_below g xs (λ i v e. h (suc i) v e) in omega arith

-- no two of the list have one number
abbrev pub AreApart : {A : Type 0} → (A → ℕ → Type 0) → List A → Type 0
AreApart {A} P l =
    (j k : ℕ) (v w : A) (x : ℕ) → get_elem? l j ≡ some v → get_elem? l k ≡ some w → P v x → P w x → j ≡ k

module _ {A : Type 0} (P : A → ℕ → Type 0) where
  -- one of the list has what it had, or a number that no other has
  pub apart_set : (l : List A) (i : ℕ) (v w : A) → get_elem? l i ≡ some v → AreApart P l
      → ((x : ℕ) → P w x → P v x ⊎ ((j : ℕ) (u : A) → get_elem? l j ≡ some u → P u x → j ≡ i))
      → AreApart P (set l i w)
  apart_set l i v w at apart fresh j k a b x ea eb pa pb =
      let other : (m : ℕ) (u : A) → get_elem? l m ≡ some u → P u x → P w x → i ≡ m = λ m u eu pu pw. ⊎_elim
      (λ pv. apart i m v u x at eu pv pu)
      (λ none_else. sym (none_else m u eu pu))
      (fresh x pw)
      in ⊎_elim
      (λ s. ⊎_elim
      (λ t. s.0 ∙ sym t.0)
      (λ t. s.0 ∙ other k b t.1 pb (subst (λ u. P u x) (sym s.1) pa))
      (at_set l i k w b eb))
      (λ s. ⊎_elim
      (λ t. sym (other j a s.1 pa (subst (λ u. P u x) (sym t.1) pb)) ∙ sym t.0)
      (λ t. apart j k a b x s.1 t.1 pa pb)
      (at_set l i k w b eb))
      (at_set l i j w a ea)

  -- one that has no number joins the list
  pub apart_snoc : (l : List A) (w : A) → AreApart P l → ((x : ℕ) → ¬ P w x) → AreApart P (l ++ w ∷ [])
  apart_snoc l w apart none_of j k a b x ea eb pa pb = ⊎_elim
      (λ s. ⊎_elim
      (λ t. apart j k a b x s t pa pb)
      (λ t. absurd (none_of x (subst (λ u. P u x) (sym t) pb)))
      (at_snoc l w b k eb))
      (λ s. absurd (none_of x (subst (λ u. P u x) (sym s) pa)))
      (at_snoc l w a j ea)

  -- one takes what another has, which is left with no number
  pub apart_join : (l : List A) (i o : ℕ) (v w both spent : A) → get_elem? l i ≡ some v → get_elem? l o ≡ some w → o ≢ i
      → AreApart P l → ((x : ℕ) → P both x → P v x ⊎ P w x) → ((x : ℕ) → ¬ P spent x)
      → AreApart P (set (set l i both) o spent)
  apart_join l i o v w both spent at_v at_w n apart from none_of j k a b x ea eb pa pb =
      let second : (m : ℕ) (u : A) → m ≢ o → get_elem? l m ≡ some u → P u x → P both x → i ≡ m = λ m u nm eu pu pboth. ⊎_elim
      (λ pv. apart i m v u x at_v eu pv pu)
      (λ pw. absurd (nm (sym (apart o m w u x at_w eu pw pu))))
      (from x pboth)
      in ⊎_elim
      (λ s. absurd (none_of x (subst (λ u. P u x) (sym s.1) pa)))
      (λ s. ⊎_elim
      (λ t. absurd (none_of x (subst (λ u. P u x) (sym t.1) pb)))
      (λ t. ⊎_elim
      (λ p. ⊎_elim
      (λ q. p.0 ∙ sym q.0)
      (λ q. p.0 ∙ second k b t.0 q.1 pb (subst (λ u. P u x) (sym p.1) pa))
      (at_set l i k both b t.1))
      (λ p. ⊎_elim
      (λ q. sym (second j a s.0 p.1 pa (subst (λ u. P u x) (sym q.1) pb)) ∙ sym q.0)
      (λ q. apart j k a b x p.1 q.1 pa pb)
      (at_set l i k both b t.1))
      (at_set l i j both a s.1))
      (at_set (set l i both) o k spent b eb))
      (at_set (set l i both) o j spent a ea)

-- the remainder of the next number is that of the remainder's next
pub next_word : (a : ℕ) → (a % 18446744073709551616 + 1) % 18446744073709551616 ≡ (a + 1) % 18446744073709551616
next_word a = omega arith
