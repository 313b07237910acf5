-- A solution that agrees with a choice on the reason of what is open agrees with what some option adds.
use Rattle.std.proofs.Common.{◌≡◌, ◌⊎◌, ◌<◌, ℕ, Bool, true, false, List, [], ◌∷◌, Option, None, Some, nat_eq, inl, inr, refl, sym, ap, subst, ◌∙◌}
use Rattle.std.specs.Option.{option_map_or}
use Rattle.std.proofs.lemmas.Bool.{cases_eq, eq-eqb, or_left, or_right}
use Rattle.basics.specs.Members.{Has}
use Rattle.dep_atom.specs.Match.{value_matches}
use Rattle.dep_atom.specs.Values.{AtomValue}
use Rattle.dep_tree.specs.Grammar.{is_block}
use Rattle.pkg_state.specs.Consistent.{leaves_in}
use Rattle.pkg_state.specs.Package.{Package}
use Rattle.pkg_state.specs.declared.class.Class.{Class}
use Rattle.choice_law.specs.Universe.{Filling, Stands, Universe, Value, absent, conflicts, counts, is_new, keep, lines, offer_at, package_of, standing, variant}
use Rattle.choice_law.specs.Solutions.{IsSolution}
use Rattle.choice_law.specs.Tree.{Choice, IsOpen, IsOption, MayBe, MayChange, Obligation, Serves, absence, conflict, decided, filling, held, held_by, required, tree, wanted}
use Rattle.choice_law.specs.Laws.{IsUniverse}
use Rattle.choice_law.specs.Reasons.{AgreesNew, AgreesOn, ReasonsSuffice, offers_against, reason, rests_on}
use Rattle.choice_law.proofs.Lacking.{mended, own_rests, rests_there}
use Rattle.choice_law.proofs.Lines.{decided_here, decided_or_not, decided_there, filling_decided, filling_free, stands_listed}
use Rattle.choice_law.proofs.Possible.{judged_fails, standing_judged}
use Rattle.choice_law.proofs.Reasons.{in_reason, matched_can, offered_passes}

same_or_not : (v w : Value) → (v ≡ w) ⊎ (¬ (v ≡ w))
same_or_not keep keep = inl refl
same_or_not keep absent = inr (λ e. cc e)
same_or_not keep (variant i) = inr (λ e. cc e)
same_or_not absent keep = inr (λ e. cc e)
same_or_not absent absent = inl refl
same_or_not absent (variant i) = inr (λ e. cc e)
same_or_not (variant i) keep = inr (λ e. cc e)
same_or_not (variant i) absent = inr (λ e. cc e)
same_or_not (variant i) (variant j) = elim (cases_eq i j) [
  | inl e ↦ inl (ap variant e)
  | inr other ↦ inr (λ e. other (let same : i ≡ j = cc e in same))
]

module _ (u : Universe) (f : Filling) (form : IsUniverse u) (s : IsSolution u f) (c : Choice) where
  -- an option with whose additions the solution agrees
  abbrev SomeOption : Obligation → Type 0
  SomeOption o = (e : Choice) × IsOption u c o e × AgreesNew c e f

  abbrev Agrees : Obligation → Type 0
  Agrees o = AgreesOn (reason u c o) c f

  -- a line on which the obligation rests, and that a solution has otherwise, isn't decided
  free_if_other : (o : Obligation) → Agrees o → (l : ℕ) → l < lines u → rests_on u c o l ≡ true → ¬ (f l ≡ filling u c l) → decided c l ≡ None
  free_if_other o agrees l there rests other = elim (decided_or_not c l) [
    | inl none ↦ none
    | inr some ↦ absurd (other (agrees l some.0 (in_reason u c o l some.0 there some.1 rests) some.1 ∙ sym (filling_decided u c l some.0 some.1)))
  ]

  may_be : (l : ℕ) → l < lines u → decided c l ≡ None → MayBe u c l (f l)
  may_be l there none = record { there = there; free = none; value = s.values l there }

  may_change : (l : ℕ) → l < lines u → decided c l ≡ None → ¬ (f l ≡ filling u c l) → MayChange u c l (f l)
  may_change l there none other = record { may = may_be l there none; other = λ e. other (e ∙ sym (filling_free u c l none)) }

  -- one more decision that the solution has
  agrees_more : (e : Choice) (m : ℕ) → AgreesNew c e f → AgreesNew c ((m, f m) ∷ e) f
  agrees_more e m all l v free d = elim (cases_eq m l) [
    | inl same ↦ (
        let here : decided ((m, f m) ∷ e) m ≡ Some (f m) = decided_here m (f m) e in
        let there : decided ((m, f m) ∷ e) m ≡ Some v = ap (λ (k : ℕ). decided ((m, f m) ∷ e) k) same ∙ d in
        let both : f m ≡ v = (let some : ◌≡◌ {A = Option Value} (Some (f m)) (Some v) = sym here ∙ there in cc some) in
        ap f (sym same) ∙ both)
    | inr other ↦ all l v free (sym (decided_there m l (f m) e other) ∙ d)
  ]

  nothing_new : AgreesNew c c f
  nothing_new l v free d = absurd (let bad : ◌≡◌ {A = Option Value} None (Some v) = sym free ∙ d in cc bad)

  adds : (m : ℕ) → AgreesNew c ((m, f m) ∷ c) f
  adds m = agrees_more c m nothing_new

  -- what stands in the solution on a line that it has as the choice has stands there now
  stands_alike : (l : ℕ) (p : Package) → f l ≡ filling u c l → Stands u (filling u c) l p → Stands u f l p
  stands_alike l p e st = record { there = st.there; is = ap (λ (v : Value). package_of (offer_at u l) v) e ∙ st.is }

  stands_now : (l : ℕ) (p : Package) → f l ≡ filling u c l → Stands u f l p → Stands u (filling u c) l p
  stands_now l p e st = record { there = st.there; is = ap (λ (v : Value). package_of (offer_at u l) v) (sym e) ∙ st.is }

  wanted_option : (a : AtomValue) → IsOpen u c (wanted a) → Agrees (wanted a) → SomeOption (wanted a)
  wanted_option a open_now agrees =
      let w = s.wanted a open_now.0 in
      elim (decided_or_not c w.0) [
        | inr some ↦ absurd (
            let rests = matched_can a [] (offer_at u w.0) (f w.0) w.1 w.2.is w.3 in
            let same = agrees w.0 some.0 (in_reason u c (wanted a) w.0 some.0 w.2.there some.1 rests) some.1 in
            let is : package_of (offer_at u w.0) some.0 ≡ Some w.1 = ap (λ (v : Value). package_of (offer_at u w.0) v) (sym same) ∙ w.2.is in
            let none = open_now.1 w.0 some.0 w.1 w.2.there some.1 is in
            let m = w.3 in
            cc (none, m))
        | inl none ↦ (
          (w.0, f w.0) ∷ c,
          (w.0, f w.0, may_be w.0 w.2.there none, record { package_is = w.1; is = w.2.is; matched = w.3 }, refl),
          adds w.0,
        )
      ]

  required_option : (l : ℕ) → IsOpen u c (required l) → Agrees (required l) → SomeOption (required l)
  required_option l open_now agrees = elim (same_or_not (f l) (filling u c l)) [
    | inl e ↦ absurd (let good = s.required l open_now.0 (stands_alike l open_now.0 e open_now.1) in let bad = open_now.2 in cc (good, bad))
    | inr other ↦ (
        let free = free_if_other (required l) agrees l open_now.1.there (eq-eqb l l refl) other in
        ((l, f l) ∷ c, (f l, may_change l open_now.1.there free other, refl), adds l))
  ]

  held_agrees : (l : ℕ) → f l ≡ filling u c l → AgreesNew c (held u c l) f
  held_agrees l e = elim (decided_or_not c l) [
    | inl none ↦ subst (λ (x : Option Value). AgreesNew c (held_by x u c l) f) (sym none)
        (subst (λ (v : Value). AgreesNew c ((l, v) ∷ c) f) (e ∙ filling_free u c l none) (adds l))
    | inr some ↦ subst (λ (x : Option Value). AgreesNew c (held_by x u c l) f) (sym some.1) nothing_new
  ]

  conflict_option : (l m : ℕ) → IsOpen u c (conflict l m) → Agrees (conflict l m) → SomeOption (conflict l m)
  conflict_option l m open_now agrees = elim (same_or_not (f l) (filling u c l)) [
    | inr other ↦ (
        let rests = or_left (nat_eq l l) (nat_eq m l) (eq-eqb l l refl) in
        let free = free_if_other (conflict l m) agrees l open_now.2.there rests other in
        ((l, f l) ∷ c, inl (f l, may_change l open_now.2.there free other, refl), adds l))
    | inl e ↦ elim (same_or_not (f m) (filling u c m)) [
      | inl same ↦ absurd (
          let good = s.peaceful l m open_now.0 open_now.1 (stands_alike l open_now.0 e open_now.2) (stands_alike m open_now.1 same open_now.3) open_now.4 in
          let now_good : conflicts (is_new (filling u c l)) open_now.0 open_now.1 ≡ false = ap (λ (v : Value). conflicts (is_new v) open_now.0 open_now.1) (sym e) ∙ good in
          let bad = open_now.5 in
          cc (now_good, bad))
      | inr other ↦ (
          let rests = or_right (nat_eq l m) (nat_eq m m) (eq-eqb m m refl) in
          let may = may_be m open_now.3.there (free_if_other (conflict l m) agrees m open_now.3.there rests other) in
          let peace : (p q : Package) → Stands u (filling u c) l p → package_of (offer_at u m) (f m) ≡ Some q → conflicts (is_new (filling u c l)) p q ≡ false =
          λ p q st is. ap (λ (v : Value). conflicts (is_new v) p q) (sym e) ∙ s.peaceful l m p q (stands_alike l p e st) (record { there = may.there; is = is }) open_now.4 in
          ((m, f m) ∷ held u c l, inr (f m, may, peace, refl), agrees_more (held u c l) m (held_agrees l e)))
    ]
  ]

  -- the solution's value of the line serves the leaf
  serving : (l m : ℕ) (class : Class) (a : AtomValue) (p : Package) → Stands u (filling u c) l p → Has (leaves_in class p) a → is_block a ≡ false → MayBe u c m (f m) → Serves u m (f m) a p.facts.enabled → SomeOption (tree l class)
  serving l m class a p st h asks may serves = ((m, f m) ∷ c, inl (a, p, m, f m, st, h, asks, may, serves, refl), adds m)

  tree_option : (l : ℕ) (class : Class) → IsOpen u c (tree l class) → Agrees (tree l class) → SomeOption (tree l class)
  tree_option l class open_now agrees = elim (same_or_not (f l) (filling u c l)) [
    | inr other ↦ (
        let free = free_if_other (tree l class) agrees l open_now.1.there (own_rests u c l class) other in
        ((l, f l) ∷ c, inr (f l, may_change l open_now.1.there free other, refl), adds l))
    | inl e ↦ (
        let p = open_now.0 in
        let met = s.met l p class (stands_alike l p e open_now.1) (ap (counts class) e ∙ open_now.2) in
        let x = mended u f c class p (form l (filling u c l) p class open_now.1.is) met (judged_fails u c class p open_now.3) in
        elim (same_or_not (f x.line) (filling u c x.line)) [
          | inl same ↦ absurd (x.not_judged (standing_judged u c class p x.one (stands_listed u (filling u c) x.line x.one (stands_now x.line x.one same x.stands))))
          | inr other ↦ (
              let rests = rests_there u f c class p l open_now.1.is x in
              let may = may_be x.line x.stands.there (free_if_other (tree l class) agrees x.line x.stands.there rests other) in
              serving l x.line class x.leaf p open_now.1 x.counted x.asks may (record { package_is = x.one; is = x.stands.is; matched = x.matched }))
        ])
  ]

  new_if_other : (o : Option Package) (v w : Value) (q : Package) → w ≡ standing o → ¬ (v ≡ w) → (v ≡ keep → o ≡ Some q) → (v ≡ absent → ⊥) → is_new v ≡ true
  new_if_other o keep w q is other kept gone = absurd (other (let stands : standing o ≡ keep = ap standing (kept refl) in sym (is ∙ stands)))
  new_if_other o absent w q is other kept gone = absurd (gone refl)
  new_if_other o (variant i) w q is other kept gone = refl

  -- a package that would be offered against the one that is installed on the line
  rests_on_against : (l m : ℕ) (z : Package) → (offer_at u l).installed ≡ Some z → offers_against z (offer_at u m) ≡ true → rests_on u c (absence l) m ≡ true
  rests_on_against l m z was against =
      let opposed : Option Package → Bool = λ x. option_map_or (λ y. offers_against y (offer_at u m)) x false in
      or_right (nat_eq l m) (opposed (offer_at u l).installed) (ap opposed was ∙ against)

  absence_option : (l : ℕ) → IsOpen u c (absence l) → Agrees (absence l) → SomeOption (absence l)
  absence_option l open_now agrees =
      let z = open_now.0 in
      let own = or_left (nat_eq l l) (option_map_or (λ y. offers_against y (offer_at u l)) (offer_at u l).installed false) (eq-eqb l l refl) in
      let gone = agrees l absent (in_reason u c (absence l) l absent open_now.1 open_now.2 own) open_now.2 in
      let k = s.cleared l z open_now.1 gone open_now.3 in
      let m = k.0 in
      let q = k.1 in
      elim (same_or_not (f m) (filling u c m)) [
        | inl same ↦ absurd (
            let none = open_now.4 m q (stands_now m q same k.2) in
            let found : conflicts (is_new (filling u c m)) q z ≡ true = ap (λ (v : Value). conflicts (is_new v) q z) (sym same) ∙ k.3 in
            cc (none, found))
        | inr other ↦ (
            let against = offered_passes (λ new y. conflicts new y z) (offer_at u m) (f m) q k.2.is k.3 in
            let free = free_if_other (absence l) agrees m k.2.there (rests_on_against l m z open_now.3 against) other in
            let may = may_be m k.2.there free in
            let new : is_new (f m) ≡ true = new_if_other (offer_at u m).installed (f m) (filling u c m) q (filling_free u c m free) other
            (λ e. ap (λ (v : Value). package_of (offer_at u m) v) (sym e) ∙ k.2.is)
            (λ e. let none : package_of (offer_at u m) (f m) ≡ None = ap (λ (v : Value). package_of (offer_at u m) v) e in let is = k.2.is in let bad : ◌≡◌ {A = Option Package} None (Some q) = sym none ∙ is in cc bad) in
            let found : conflicts true q z ≡ true = ap (λ (b : Bool). conflicts b q z) (sym new) ∙ k.3 in
            ((m, f m) ∷ c, (m, f m, q, z, may, new, k.2.is, open_now.3, found, refl), adds m))
      ]

  pub some_option : (o : Obligation) → IsOpen u c o → AgreesOn (reason u c o) c f → (e : Choice) × IsOption u c o e × AgreesNew c e f
  some_option (wanted a) open_now agrees = wanted_option a open_now agrees
  some_option (required l) open_now agrees = required_option l open_now agrees
  some_option (conflict l m) open_now agrees = conflict_option l m open_now agrees
  some_option (tree l class) open_now agrees = tree_option l class open_now agrees
  some_option (absence l) open_now agrees = absence_option l open_now agrees

pub reasons_suffice : ReasonsSuffice
reasons_suffice u f c o form s open_now agrees = some_option u f form s c o open_now agrees
