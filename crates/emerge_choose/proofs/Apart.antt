-- No two lines of a universe that is made have packages of one name and slot.
use Rattle.std.proofs.Common.{◌≡◌, ◌∙◌, ℕ, zero, suc, Bool, true, false, List, [], ◌∷◌, Option, None, Some, get_or, if◌then◌else◌, inl, inr, map, refl, ap, subst, sym}
use Rattle.std.specs.Prelude.{bytes_eq, filter}
use Rattle.std.specs.List.{find}
use Rattle.std.specs.List.Sorted.{IsStrictlySortedBy}
use Rattle.std.specs.declared.cmp.Ordering.TheVariants.{Less}
use Rattle.std.proofs.lemmas.Slice.Eq.{bytes_eq-Decides}
use Rattle.basics.specs.Members.{Has}
use Rattle.basics.proofs.Each.{all_has}
use Rattle.basics.proofs.Membership.{has-slice_get}
use Rattle.basics.proofs.Texts.{not_less}
use Rattle.pms_names.specs.Flags.{IsRising, byte_order}
use Rattle.pkg_state.specs.Package.{Package, line_of}
use Rattle.choice_law.specs.Universe.{Offer, Universe, Value, absent, keep, no_offer, offer_at, package_of, variant}
use Rattle.resolver.proofs.Offers.{nothing_offered}
use Rattle.merge_groups.specs.Single.{AreLinesApart}
use Rattle.choice_universe.specs.Offers.{AreOffers, offer_on}

module _ {A : Type 0} (test : A → Bool) where
  kept_passes : (b : Bool) (y x : A) (ys : List A) → test y ≡ b → (Has ys x → test x ≡ true) → Has (if b then y ∷ ys else ys) x → test x ≡ true
  kept_passes true y x ys e later (inl same) = ap test (sym same) ∙ e
  kept_passes true y x ys e later (inr has) = later has
  kept_passes false y x ys e later has = later has

  filter_passes : (xs : List A) (x : A) → Has (filter test xs) x → test x ≡ true
  filter_passes [] x has = absurd has
  filter_passes (y ∷ ys) x has = kept_passes (test y) y x (filter test ys) refl (filter_passes ys x) has

  found_passes : (b : Bool) (y x : A) (later : Option A) → test y ≡ b → (later ≡ Some x → test x ≡ true) → (if b then Some y else later) ≡ Some x → test x ≡ true
  found_passes true y x later e rest is = ap test (some_is y x is) ∙ e
    where
      or_else : A → Option A → A
      or_else d None = d
      or_else d (Some z) = z

      some_is : (y x : A) → Some y ≡ Some x → x ≡ y
      some_is y x is = sym (ap (or_else y) is)
  found_passes false y x later e rest is = rest is

  find_passes : (xs : List A) (x : A) → find test xs ≡ Some x → test x ≡ true
  find_passes [] x is = absurd (cc is)
  find_passes (y ∷ ys) x is = found_passes (test y) y x (find test ys) refl (find_passes ys x) is

-- what stands at a place of a list
abbrev IsAt : List (List ℕ) → ℕ → List ℕ → Type 0
IsAt [] l x = ⊥
IsAt (k ∷ ks) zero x = k ≡ x
IsAt (k ∷ ks) (suc l) x = IsAt ks l x

at_has : (ks : List (List ℕ)) (l : ℕ) (x : List ℕ) → IsAt ks l x → Has ks x
at_has [] l x at_l = absurd at_l
at_has (k ∷ ks) zero x at_l = inl at_l
at_has (k ∷ ks) (suc l) x at_l = inr (at_has ks l x at_l)

-- what rises has each once
one_place : (ks : List (List ℕ)) (l m : ℕ) (x y : List ℕ) → IsRising ks → IsAt ks l x → IsAt ks m y → x ≡ y → l ≡ m
unfolding IsStrictlySortedBy
one_place [] l m x y up at_l at_m e = absurd at_l
one_place (k ∷ ks) zero zero x y up at_l at_m e = refl
one_place (k ∷ ks) zero (suc m) x y up at_l at_m e = absurd (not_less k y (at_l ∙ e) (all_has (λ z. byte_order k z ≡ Less) ks y up.0 (at_has ks m y at_m)))
one_place (k ∷ ks) (suc l) zero x y up at_l at_m e = absurd (not_less k x (at_m ∙ sym e) (all_has (λ z. byte_order k z ≡ Less) ks x up.0 (at_has ks l x at_l)))
one_place (k ∷ ks) (suc l) (suc m) x y up at_l at_m e = ap (λ j. suc j) (one_place ks l m x y up.1 at_l at_m e)

module _ (installed variants : List Package) where
  own_line : (k : List ℕ) (v : Value) (p : Package) → package_of (offer_on installed variants k) v ≡ Some p → k ≡ line_of p.facts
  own_line k keep p e = (bytes_eq-Decides k (line_of p.facts)).0 (find_passes (λ q. bytes_eq k (line_of q.facts)) installed p e)
  own_line k absent p e = absurd (cc e)
  own_line k (variant i) p e = (bytes_eq-Decides k (line_of p.facts)).0
      (filter_passes (λ q. bytes_eq k (line_of q.facts)) variants p (has-slice_get (filter (λ q. bytes_eq k (line_of q.facts)) variants) i p e))

  at_line : (ks : List (List ℕ)) (l : ℕ) (v : Value) (p : Package) → package_of (get_or (map (offer_on installed variants) ks) l no_offer) v ≡ Some p → IsAt ks l (line_of p.facts)
  at_line [] l v p e = nothing_offered v p e
  at_line (k ∷ ks) zero v p e = own_line k v p e
  at_line (k ∷ ks) (suc l) v p e = at_line ks l v p e

  pub offers_apart : (u : Universe) → AreOffers installed variants u.offers → AreLinesApart u
  offers_apart u are = λ l m v w p q e f same.
      let here = λ (j : ℕ) (x : Value) (r : Package) (is : package_of (offer_at u j) x ≡ Some r). at_line are.lines j x r
      (subst (λ (os : List Offer). package_of (get_or os j no_offer) x ≡ Some r) are.each is) in
      one_place are.lines l m (line_of p.facts) (line_of q.facts) are.rising (here l v p e) (here m w q f) same
