-- What may yet stand under a choice.
use Rattle.std.proofs.Common.{◌≡◌, ◌<◌, ◌++◌, ℕ, zero, suc, Bool, false, cond, List, Option, None, Some, inl, inr, refl, sym, ap, subst, arith, ◌∙◌}
use Rattle.std.proofs.lemmas.Bool.{cases_Bool, cases_eq}
use Rattle.basics.specs.Members.{Has}
use Rattle.basics.proofs.Membership.{has-append_left, has-append_right, has-slice_get}
use Rattle.pkg_state.specs.Consistent.{facts_of, is_met}
use Rattle.pkg_state.specs.Package.{Package}
use Rattle.pkg_state.specs.declared.class.Class.{Class}
use Rattle.choice_law.specs.Possible.{judged_among, may_be_met, possible, possible_below, possible_on}
use Rattle.choice_law.specs.Tree.{Choice, decided, filling}
use Rattle.choice_law.specs.Universe.{Offer, Stands, Universe, Value, absent, as_list, keep, lines, offer_at, package_of, packages, variant}
use Rattle.choice_law.proofs.Lines.{filling_decided, listed, listed_stands}

-- each value that a line may have gives what may stand there
offered_on : (o : Offer) (v : Value) (p : Package) → package_of o v ≡ Some p → Has (as_list o.installed ++ o.variants) p
offered_on o keep p is = has-append_left (as_list o.installed) o.variants p (listed o.installed p is)
offered_on o absent p is = absurd (let bad : ◌≡◌ {A = Option Package} None (Some p) = is in cc bad)
offered_on o (variant i) p is = has-append_right (as_list o.installed) o.variants p (has-slice_get o.variants i p is)

value_on : (d : Option Value) (o : Offer) (v : Value) (p : Package) → package_of o v ≡ Some p → ((w : Value) → d ≡ Some w → w ≡ v) → Has (possible_on d o) p
value_on None o v p is same = offered_on o v p is
value_on (Some w) o v p is same = listed (package_of o w) p (ap (package_of o) (same w refl) ∙ is)

module _ (u : Universe) (c : Choice) where
  possible_has : (n l : ℕ) (v : Value) (p : Package) → l < n → package_of (offer_at u l) v ≡ Some p → ((w : Value) → decided c l ≡ Some w → w ≡ v) → Has (possible_below u c n) p
  possible_has zero l v p less is same = absurd (omega (arith, less))
  possible_has (suc n) l v p less is same = elim (cases_eq l n) [
    | inl here ↦ has-append_right (possible_below u c n) (possible_on (decided c n) (offer_at u n)) p
        (subst (λ (k : ℕ). Has (possible_on (decided c k) (offer_at u k)) p) here (value_on (decided c l) (offer_at u l) v p is same))
    | inr other ↦ has-append_left (possible_below u c n) (possible_on (decided c n) (offer_at u n)) p (possible_has n l v p (omega (arith, less, other)) is same)
  ]

  -- what a line has by a value that is decided, or that may yet be, may yet stand
  pub value_possible : (l : ℕ) (v : Value) (p : Package) → l < lines u → package_of (offer_at u l) v ≡ Some p → ((w : Value) → decided c l ≡ Some w → w ≡ v) → Has (possible u c) p
  value_possible l v p there is same = possible_has (lines u) l v p there is same

  -- and so may what stands now
  standing_possible : (p : Package) → Has (packages u (filling u c)) p → Has (possible u c) p
  standing_possible p h =
      let st = listed_stands u (filling u c) p h in
      value_possible st.0 (filling u c st.0) p st.1.there st.1.is (λ w d. sym (filling_decided u c st.0 w d))

  module _ (class : Class) (p : Package) where
    abbrev by_test : Bool → List Package
    by_test b = cond b (packages u (filling u c)) (possible u c)

    -- what stands now is among those by which it is judged
    pub standing_judged : (q : Package) → Has (packages u (filling u c)) q → Has (judged_among u c class p) q
    standing_judged q h = elim (cases_Bool (may_be_met u c class p)) [
      | inl met ↦ subst (λ (b : Bool). Has (by_test b) q) (sym met) h
      | inr not_met ↦ subst (λ (b : Bool). Has (by_test b) q) (sym not_met) (standing_possible q h)
    ]

    -- what doesn't hold among those that stand doesn't hold among those by which it is judged
    pub judged_fails : is_met (facts_of (packages u (filling u c))) class p ≡ false → is_met (facts_of (judged_among u c class p)) class p ≡ false
    judged_fails fails = elim (cases_Bool (may_be_met u c class p)) [
      | inl met ↦ ap (λ (b : Bool). is_met (facts_of (by_test b)) class p) met ∙ fails
      | inr not_met ↦ ap (λ (b : Bool). is_met (facts_of (by_test b)) class p) not_met ∙ not_met
    ]

    -- where it can't be met, it is judged by what may yet stand
    pub judged_possible : may_be_met u c class p ≡ false → judged_among u c class p ≡ possible u c
    judged_possible e = ap by_test e
