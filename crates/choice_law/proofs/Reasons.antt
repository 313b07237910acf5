-- The lines of a reason, and packages that are offered on a line.
use Rattle.std.proofs.Common.{◌≡◌, ◌<◌, ◌&&◌, ℕ, zero, suc, Bool, true, false, cond, List, [], ◌∷◌, Option, None, Some, is_some, inl, inr, sym, ap, subst, arith, ◌∙◌}
use Rattle.std.specs.List.{list_any}
use Rattle.std.specs.Option.{option_map_or}
use Rattle.std.proofs.lemmas.Bool.{cases_eq, or_left, or_right}
use Rattle.basics.specs.Members.{Has}
use Rattle.basics.proofs.Membership.{has-append_left, has-append_right, has-slice_get}
use Rattle.dep_atom.specs.Match.{value_matches}
use Rattle.dep_atom.specs.Values.{AtomValue}
use Rattle.dep_atom.specs.declared.package.Facts.{Facts}
use Rattle.pkg_state.specs.Package.{Package}
use Rattle.pkg_state.specs.declared.class.Class.{Class}
use Rattle.basics.proofs.Members.{passes_some}
use Rattle.choice_law.specs.Universe.{Offer, Universe, Value, absent, is_new, keep, lines, package_of, variant}
use Rattle.choice_law.specs.Tree.{Choice, Obligation, decided}
use Rattle.choice_law.specs.Blame.{blamed_in}
use Rattle.choice_law.specs.Reasons.{can_match, offers, offers_blamed, reason, rests_on, those_below}

module _ (test : ℕ → Bool) where
  has_those : (n l : ℕ) → l < n → test l ≡ true → Has (those_below test n) l
  has_those zero l less e = absurd (omega (arith, less))
  has_those (suc n) l less e = elim (cases_eq l n) [
    | inl same ↦ has-append_right (those_below test n) (cond (test n) (n ∷ []) []) l
        (subst (λ (b : Bool). Has (cond b (n ∷ []) []) l) (sym (ap test (sym same) ∙ e)) (inl (sym same)))
    | inr other ↦ has-append_left (those_below test n) (cond (test n) (n ∷ []) []) l (has_those n l (omega (arith, less, other)) e)
  ]

-- a decided line on which the obligation rests is in its reason
pub in_reason : (u : Universe) (c : Choice) (o : Obligation) (l : ℕ) (v : Value) → l < lines u → decided c l ≡ Some v → rests_on u c o l ≡ true → Has (reason u c o) l
in_reason u c o l v there is rests =
    has_those (λ k. is_some (decided c k) && rests_on u c o k) (lines u) l there
    (ap (λ (x : Option Value). is_some x && rests_on u c o l) is ∙ rests)

-- what may stand on a line is offered there
pub offered_passes : (test : Bool → Package → Bool) (o : Offer) (v : Value) (p : Package) → package_of o v ≡ Some p → test (is_new v) p ≡ true → offers test o ≡ true
offered_passes test o keep p is e =
    or_left (option_map_or (test false) o.installed false) (list_any (test true) o.variants) (ap (λ (x : Option Package). option_map_or (test false) x false) is ∙ e)
offered_passes test o absent p is e = absurd (let bad : ◌≡◌ {A = Option Package} None (Some p) = is in cc bad)
offered_passes test o (variant i) p is e =
    or_right (option_map_or (test false) o.installed false) (list_any (test true) o.variants) (passes_some (test true) o.variants p (has-slice_get o.variants i p is) e)

-- what an atom matches may be matched on its line
pub matched_can : (a : AtomValue) (asker : List (List ℕ)) (o : Offer) (v : Value) (p : Package) → package_of o v ≡ Some p → value_matches a p.facts asker ≡ true → can_match a asker o ≡ true
matched_can a asker o v p is e = offered_passes (λ new q. value_matches a q.facts asker) o v p is e

-- what may be matched by a leaf to blame
pub blamed_can : (facts : List Facts) (class : Class) (p : Package) (o : Offer) (a : AtomValue) → Has (blamed_in facts class p) a → can_match a p.facts.enabled o ≡ true → offers_blamed facts class p o ≡ true
blamed_can facts class p o a h can = passes_some (λ b. can_match b p.facts.enabled o) (blamed_in facts class p) a h can
