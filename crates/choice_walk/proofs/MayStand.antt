-- What may yet stand under a choice, line by line.
use Rattle.std.proofs.Common.{◌≡◌, ◌∙◌, ◌≤◌, ◌||◌, ◌&&◌, ◌++◌, ℕ, zero, suc, Bool, true, false, cond, not, List, [], ◌∷◌, Option, None, Some, ap, get_or, inl, inr, is_some, length, refl, sym}
use Rattle.std.specs.List.{flat_map, list_any}
use Rattle.std.specs.Option.{option_map_or}
use Rattle.std.proofs.lemmas.Bool.{cases_lt, or_cases, or_left, or_right}
use Rattle.std.proofs.lemmas.List.{get_or_past, map-append}
use Rattle.std.proofs.lemmas.List.Folds.{list_any-append}
use Rattle.basics.proofs.Members.{passes_some, some_passes}
use Rattle.dep_atom.specs.Match.{value_matches}
use Rattle.dep_atom.specs.Values.{AtomValue}
use Rattle.dep_atom.specs.declared.package.Facts.{Facts}
use Rattle.dep_tree.specs.Truth.{some_match}
use Rattle.pkg_state.specs.Consistent.{facts_of, is_met}
use Rattle.pkg_state.specs.Package.{Package}
use Rattle.pkg_state.specs.declared.class.Class.{Class}
use Rattle.pkg_state.proofs.Named.{same_package}
use Rattle.choice_law.specs.Possible.{is_hopeless, judged_among, possible, possible_below, possible_on}
use Rattle.choice_law.specs.Tree.{Choice, decided, filling, tree}
use Rattle.choice_law.specs.Universe.{Offer, Universe, Value, absent, as_list, keep, lines, no_offer, offer_at, package_of, packages, variant}
use Rattle.choice_tree.specs.Keys.{AreKeyed, Lists, has_key, lines_at, offers_in, offers_key}
use Rattle.choice_tree.specs.Places.{Place, is_one, no_place, numbers, packages_in, place_at, places}
use Rattle.choice_tree.specs.declared.key.Key.TheVariants.{Own}
use Rattle.choice_tree.proofs.Packages.{any_map, flat_map_map, packages_are, row_more}
use Rattle.choice_tree.proofs.Pick.{place_is, place_past}
use Rattle.choice_tree.proofs.Turned.{offer_in}
use Rattle.choice_tree.proofs.Under.{any_keyed, any_numbered, offered}
use Rattle.choice_walk.specs.Possible.{is_lost, judged_in, may_match, may_match_by, possible_in}

module _ (a : AtomValue) (asker : List (List ℕ)) where
  abbrev test : Package → Bool
  test p = value_matches a p.facts asker

  abbrev is_named : Package → Bool
  is_named = has_key Own a.name.«package»

  or_false : (b : Bool) → (b || false) ≡ b
  or_false true = refl
  or_false false = refl

  any_offered : (x : Option Package) (ps : List Package) → list_any test (as_list x ++ ps) ≡ (option_map_or test x false || list_any test ps)
  any_offered None ps = refl
  any_offered (Some p) ps = refl

  any_listed : (x : Option Package) → list_any test (as_list x) ≡ is_one test x
  any_listed None = refl
  any_listed (Some p) = or_false (test p)

  any_there : (d : Option Value) (o : Offer) → list_any test (possible_on d o) ≡ may_match_by a asker d o
  any_there None o = any_offered o.installed o.variants
  any_there (Some v) o = any_listed (package_of o v)

  -- a test of what may stand is a test line by line
  pub any_possible : (ss : List Place) → some_match (facts_of (possible_in ss)) asker a ≡ list_any (may_match a asker) ss
  any_possible [] = refl
  any_possible (s ∷ ss) =
      let fits : Facts → Bool = λ f. value_matches a f asker in
      let there = possible_on s.decided s.offer in
      ap (list_any fits) (map-append (λ (p : Package). p.facts) there (possible_in ss))
      ∙ (list_any-append fits (facts_of there) (facts_of (possible_in ss))
      ∙ (ap (λ (b : Bool). b || list_any fits (facts_of (possible_in ss))) (any_map fits (λ (p : Package). p.facts) there ∙ any_there s.decided s.offer)
      ∙ ap (λ (b : Bool). may_match a asker s || b) (any_possible ss)))

  named_one : (x : Option Package) → is_one test x ≡ true → is_one is_named x ≡ true
  named_one None e = absurd (cc e)
  named_one (Some p) e = same_package a p.facts asker e

  named_kept : (x : Option Package) → option_map_or test x false ≡ true → is_one is_named x ≡ true
  named_kept None e = absurd (cc e)
  named_kept (Some p) e = same_package a p.facts asker e

  -- where a package may stand that the atom matches, one of its name is offered
  pub named_there : (d : Option Value) (o : Offer) → may_match_by a asker d o ≡ true → offers_key Own a.name.«package» o ≡ true
  named_there (Some v) o e = offered is_named o v (named_one (package_of o v) e)
  named_there None o e = elim (or_cases (option_map_or test o.installed false) (list_any test o.variants) e) [
    | inl kept ↦ or_left (is_one is_named o.installed) (list_any is_named o.variants) (named_kept o.installed kept)
    | inr varied ↦ (
        let x = some_passes test o.variants varied in
        or_right (is_one is_named o.installed) (list_any is_named o.variants) (passes_some is_named o.variants x.0 x.1 (same_package a x.0.facts asker x.2)))
  ]

-- what the atom may match on the lines of its name is what it may match
pub possible_keyed : (ss : List Place) (lists : Lists) (a : AtomValue) (asker : List (List ℕ)) (name ls : List ℕ) → AreKeyed Own (offers_in ss) lists → name ≡ a.name.«package» → ls ≡ lines_at lists name
    → list_any (λ l. may_match a asker (get_or ss l no_place)) ls ≡ some_match (facts_of (possible_in ss)) asker a
possible_keyed ss lists a asker name ls are is those =
    let test : ℕ → Bool = λ (l : ℕ). may_match a asker (get_or ss l no_place) in
    ap (list_any test) (those ∙ ap (lines_at lists) is)
    ∙ (any_keyed Own a.name.«package» ss lists are test (λ l e. ap (offers_key Own a.name.«package») (sym (offer_in ss l)) ∙ named_there a asker (get_or ss l no_place).decided (get_or ss l no_place).offer e)
    ∙ (sym (any_numbered (may_match a asker) ss)
    ∙ sym (any_possible a asker ss)))

module _ (u : Universe) (c : Choice) where
  abbrev possible_there : ℕ → List Package
  possible_there l = possible_on (decided c l) (offer_at u l)

  possible_rows : (n : ℕ) → possible_below u c n ≡ flat_map possible_there (numbers n 0)
  possible_rows zero = refl
  possible_rows (suc n) = ap (λ (ps : List Package). ps ++ possible_there n) (possible_rows n) ∙ row_more possible_there n

  possible_are : possible u c ≡ possible_in (places u c)
  possible_are = possible_rows (lines u) ∙ sym (flat_map_map (λ s. possible_on s.decided s.offer) (place_at u c) (numbers (lines u) 0))

  pub judged_are : (class : Class) (p : Package) → judged_among u c class p ≡ judged_in (places u c) class p
  judged_are class p =
      ap (λ (ps : List Package). cond (is_met (facts_of ps) class p) (packages u (filling u c)) ps) possible_are
      ∙ ap (λ (ps : List Package). cond (is_met (facts_of (possible_in (places u c))) class p) ps (possible_in (places u c))) (packages_are u c)

  one_or : (test : Package → Bool) (x : Option Package) → is_one test x ≡ option_map_or test x false
  one_or test None = refl
  one_or test (Some p) = refl

  none_there : (o : Offer) (v : Value) → o ≡ no_offer → package_of o v ≡ None
  none_there o keep is = ap (λ (x : Offer). package_of x keep) is
  none_there o absent is = refl
  none_there o (variant i) is = ap (λ (x : Offer). package_of x (variant i)) is

  none_lost : (test : Package → Bool) (d : Option Value) (x : Option Package) → x ≡ None → false ≡ (is_some d && option_map_or test x false)
  none_lost test None x e = refl
  none_lost test (Some v) x e = sym (ap (λ (y : Option Package). option_map_or test y false) e)

  pub lost_are : (l : ℕ) (class : Class) → is_lost (places u c) class (get_or (places u c) l no_place) ≡ is_hopeless u c (tree l class)
  lost_are l class =
      let fails : List Package → Package → Bool = λ ps p. not (is_met (facts_of ps) class p) in
      let here = package_of (offer_at u l) (filling u c l) in
      elim (cases_lt l (lines u)) [
        | inl less ↦ ap (is_lost (places u c) class) (place_is u c l less)
            ∙ (ap (λ (b : Bool). is_some (decided c l) && b) (one_or (fails (possible_in (places u c))) here)
            ∙ ap (λ (ps : List Package). is_some (decided c l) && option_map_or (fails ps) here false) (sym possible_are))
        | inr past ↦ ap (is_lost (places u c) class) (place_past u c l past)
            ∙ none_lost (fails (possible u c)) (decided c l) here (none_there (offer_at u l) (filling u c l) (get_or_past u.offers l no_offer past))
      ]
