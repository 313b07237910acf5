-- The changes of a choice are of different lines, and each takes something away or brings something.
use Rattle.std.proofs.Common.{if◌then◌else◌, ◌≡◌, ◌∙◌, ◌<◌, ◌⊎◌, ℕ, zero, suc, Bool, true, false, List, [], ◌∷◌, Some, arith, filter, get_or, inl, inr, length, map, refl, ap, subst, sym}
use Rattle.std.specs.Prelude.{IsSome, slice_get}
use Rattle.std.proofs.lemmas.List.{get_or_default, length-map}
use Rattle.basics.specs.Members.{AreDistinct, Has}
use Rattle.basics.proofs.Membership.{has-at, has-filter_back}
use Rattle.pkg_state.specs.Package.{Package}
use Rattle.choice_law.specs.Tree.{Choice, filling}
use Rattle.choice_law.specs.Universe.{IsValue, Offer, Universe, Value, absent, keep, lines, offer_at, package_of, variant}
use Rattle.choice_tree.specs.Places.{numbers}
use Rattle.choice_tree.proofs.Numbers.{get_mapped, numbers_have}
use Rattle.merge_edges.specs.Changes.{Change as LineChange, change_on, changed_lines, changes, changes_line, is_change}
use Rattle.merge_groups.specs.Apart.{AreChangesApart, AreSome}
use Rattle.merge_groups.specs.Arranged.{HasValues}
use Rattle.merge_groups.specs.Grouped.{no_change, side_at, side_of}
use Rattle.merge_groups.specs.Single.{AreLinesApart}
use Rattle.merge_groups.specs.declared.change.Change.{Change}
use Rattle.merge_groups.specs.declared.change.Change.TheVariants as sides
use Rattle.merge_groups.proofs.Apart.{distinct_numbers}

distinct_if : (b : Bool) (x : ℕ) (xs : List ℕ) → ¬ Has xs x → AreDistinct xs → AreDistinct (if b then x ∷ xs else xs)
distinct_if true x xs new d = (new, d)
distinct_if false x xs new d = d

distinct_kept : (t : ℕ → Bool) (xs : List ℕ) → AreDistinct xs → AreDistinct (filter t xs)
distinct_kept t [] d = tt
distinct_kept t (x ∷ xs) d = distinct_if (t x) x (filter t xs) (λ has. d.0 (has-filter_back t xs x has).0) (distinct_kept t xs d.1)

-- what stands at a place of a list
abbrev IsAt : List ℕ → ℕ → ℕ → Type 0
IsAt [] x l = ⊥
IsAt (k ∷ ks) zero l = k ≡ l
IsAt (k ∷ ks) (suc x) l = IsAt ks x l

at_has : (ks : List ℕ) (x l : ℕ) → IsAt ks x l → Has ks l
at_has [] x l at_x = absurd at_x
at_has (k ∷ ks) zero l at_x = inl at_x
at_has (k ∷ ks) (suc x) l at_x = inr (at_has ks x l at_x)

one_place : (ks : List ℕ) (x y l m : ℕ) → AreDistinct ks → IsAt ks x l → IsAt ks y m → l ≡ m → x ≡ y
one_place [] x y l m d at_x at_y e = absurd at_x
one_place (k ∷ ks) zero zero l m d at_x at_y e = refl
one_place (k ∷ ks) zero (suc y) l m d at_x at_y e = absurd (d.0 (subst (λ (j : ℕ). Has ks j) (sym (at_x ∙ e)) (at_has ks y m at_y)))
one_place (k ∷ ks) (suc x) zero l m d at_x at_y e = absurd (d.0 (subst (λ (j : ℕ). Has ks j) (e ∙ sym at_y) (at_has ks x l at_x)))
one_place (k ∷ ks) (suc x) (suc y) l m d at_x at_y e = ap (λ j. suc j) (one_place ks x y l m d.1 at_x at_y e)

module _ (u : Universe) (c : Choice) where
  side_value : (side : Change) (l : ℕ) (p : Package) → side_of side (change_on u c l) ≡ Some p → (w : Value) × (package_of (offer_at u l) w ≡ Some p)
  side_value sides.Removal l p e = (keep, e)
  side_value sides.Addition l p e = (filling u c l, e)

  none_at : (side : Change) (p : Package) → side_of side no_change ≡ Some p → ⊥
  none_at sides.Removal p e = cc e
  none_at sides.Addition p e = cc e

  at_line : (side : Change) (ls : List ℕ) (x : ℕ) (p : Package) → side_at side (map (change_on u c) ls) x ≡ Some p → (l : ℕ) × IsAt ls x l × (side_of side (change_on u c l) ≡ Some p)
  at_line side [] x p e = absurd (none_at side p e)
  at_line side (l ∷ ls) zero p e = (l, refl, e)
  at_line side (l ∷ ls) (suc x) p e = at_line side ls x p e

  pub changes_apart : AreLinesApart u → AreChangesApart (changes u c)
  changes_apart apart = λ side x y p q e f same.
      let at_x = at_line side (changed_lines u c) x p e in
      let at_y = at_line side (changed_lines u c) y q f in
      let v = side_value side at_x.0 p at_x.2 in
      let w = side_value side at_y.0 q at_y.2 in
      one_place (changed_lines u c) x y at_x.0 at_y.0 (distinct_kept (changes_line u c) (numbers (lines u) 0) (distinct_numbers (lines u) 0)) at_x.1 at_y.1
      (apart at_x.0 at_y.0 v.0 w.0 p q v.1 w.1 same)

  got_some : (ps : List Package) (i : ℕ) → i < length ps → IsSome (slice_get ps i)
  got_some [] i less = absurd (omega (arith, less))
  got_some (p ∷ ps) zero less = refl
  got_some (p ∷ ps) (suc i) less = got_some ps i (omega (arith, less))

  some_by : (o : Offer) (v : Value) → IsValue o v → is_change o v ≡ true → IsSome o.installed ⊎ IsSome (package_of o v)
  some_by o keep is e = absurd (cc e)
  some_by o absent is e = inl e
  some_by o (variant i) is e = inr (got_some o.variants i is)

  pub changes_some : HasValues u c → AreSome (changes u c)
  changes_some values = λ x less.
      let ls = changed_lines u c in
      let inside : x < length ls = (let long = length-map ls (change_on u c) in omega (arith, less, long)) in
      let l = get_or ls x 0 in
      let has = has-filter_back (changes_line u c) (numbers (lines u) 0) l (has-at ls x l inside (get_or_default ls x 0 l inside)) in
      let there = (numbers_have (lines u) 0 l has.0).1 in
      let here : get_or (changes u c) x no_change ≡ change_on u c l = get_mapped (change_on u c) ls x 0 no_change inside in
      elim (some_by (offer_at u l) (filling u c l) (values l (omega (arith, there))) has.1) [
        | inl goes ↦ inl (subst (λ (k : LineChange). IsSome k.old) (sym here) goes)
        | inr comes ↦ inr (subst (λ (k : LineChange). IsSome k.new) (sym here) comes)
      ]
