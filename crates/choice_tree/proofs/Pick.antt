-- What is taken up is open, and where nothing is taken up, nothing is open.
use Rattle.std.proofs.Common.{◌≡◌, ◌⊎◌, ◌<◌, ◌≤◌, ◌+◌, ◌++◌, ℕ, zero, suc, Bool, true, false, not, List, [], ◌∷◌, Option, None, Some, get_or, length, map, nat_eq, refl, sym, ap, subst, arith, ◌∙◌, inl, inr}
use Rattle.std.specs.List.{flat_map, list_any}
use Rattle.std.specs.Option.{option_and_then}
use Rattle.std.proofs.lemmas.Bool.{and_from, and_parts, cases_Bool, cases_lt, eq-eqb, eqb-true, not-true}
use Rattle.std.proofs.lemmas.List.{length-map}
use Rattle.basics.specs.Members.{Has}
use Rattle.basics.proofs.Membership.{has-append_cases, has-append_left, has-append_right, has-flat_map, has-flat_map_back, has-map, has-map_back}
use Rattle.dep_atom.specs.Match.{value_matches}
use Rattle.dep_atom.specs.Values.{AtomValue}
use Rattle.pkg_state.specs.Consistent.{facts_of, fits_required, is_met}
use Rattle.pkg_state.specs.Package.{Package}
use Rattle.pkg_state.specs.declared.class.Class.{Class}
use Rattle.pkg_state.specs.declared.class.Class.TheVariants.{Bdepend, Depend, Idepend, Pdepend, Rdepend}
use Rattle.pkg_state.proofs.Lists.{any_none, found_passes, none_found, none_passes}
use Rattle.choice_law.specs.Universe.{Stands, Universe, Value, absent, conflicts, counts, is_new, keep, lines, offer_at, package_of, packages, variant}
use Rattle.choice_law.specs.Tree.{Choice, IsOpen, Obligation, absence, conflict, decided, filling, required, tree, wanted}
use Rattle.choice_tree.specs.Places.{Place, is_one, no_place, numbers, package_in, packages_in, place_at, places, value_in}
use Rattle.choice_tree.specs.Open.{FirstOpenIsAPick, classes, decides, first_open, is_gone, is_open_of, obligations, obligations_of, opposes}
use Rattle.choice_tree.proofs.Numbers.{get_numbered, has_numbers, length_numbers, numbers_have}
use Rattle.choice_tree.proofs.Packages.{packages_are}

module _ {A : Type 0} (test : A → Bool) where
  pub one_is : (x : Option A) → is_one test x ≡ true → (a : A) × (x ≡ Some a) × (test a ≡ true)
  one_is None e = absurd (cc e)
  one_is (Some a) e = (a, refl, e)

  pub one_has : (x : Option A) (a : A) → x ≡ Some a → is_one test x ≡ test a
  one_has x a e = ap (is_one test) e

  pub one_not : (x : Option A) → ((a : A) → x ≡ Some a → test a ≡ false) → is_one test x ≡ false
  one_not None h = refl
  one_not (Some a) h = h a refl

get_past : {A : Type 0} (xs : List A) (l : ℕ) (d : A) → length xs ≤ l → get_or xs l d ≡ d
get_past [] l d past = refl
get_past (x ∷ xs) zero d past = absurd (omega (arith, past))
get_past (x ∷ xs) (suc l) d past = get_past xs l d (omega (arith, past))

module _ (u : Universe) (c : Choice) where
  abbrev ss : List Place
  ss = places u c

  abbrev place : ℕ → Place
  place l = get_or (places u c) l no_place

  abbrev all : List Obligation
  all = obligations u.wanted (lines u)

  pub place_is : (l : ℕ) → l < lines u → place l ≡ place_at u c l
  place_is l less = get_numbered (place_at u c) no_place (lines u) 0 l less ∙ ap (place_at u c) (let z : 0 + l ≡ l = omega arith in z)

  pub place_past : (l : ℕ) → lines u ≤ l → place l ≡ no_place
  place_past l past =
      let long : length (places u c) ≡ lines u = length-map (numbers (lines u) 0) (place_at u c) ∙ length_numbers (lines u) 0 in
      get_past (places u c) l no_place (omega (arith, long, past))

  pub there : (l : ℕ) (p : Package) → package_in (place l) ≡ Some p → Stands u (filling u c) l p
  there l p is = elim (cases_lt l (lines u)) [
    | inl less ↦ record { there = less; is = ap package_in (sym (place_is l less)) ∙ is }
    | inr past ↦ absurd (let none : package_in (place l) ≡ None = ap package_in (place_past l past) in let bad : ◌≡◌ {A = Option Package} None (Some p) = sym none ∙ is in cc bad)
  ]

  pub stands : (l : ℕ) (p : Package) → Stands u (filling u c) l p → package_in (place l) ≡ Some p
  stands l p st = ap package_in (place_is l st.there) ∙ st.is

  value_at : (l : ℕ) (p : Package) → Stands u (filling u c) l p → value_in (place l) ≡ filling u c l
  value_at l p st = ap value_in (place_is l st.there)

  pub opposed : (q : Package) (l : ℕ) → opposes q (place l) ≡ true → (p : Package) × Stands u (filling u c) l p × (conflicts (is_new (filling u c l)) p q ≡ true)
  opposed q l e =
      let one = one_is (λ p. conflicts (is_new (value_in (place l))) p q) (package_in (place l)) e in
      let st = there l one.0 one.1 in
      (one.0, st, ap (λ (v : Value). conflicts (is_new v) one.0 q) (sym (value_at l one.0 st)) ∙ one.2)

  pub opposing : (q : Package) (l : ℕ) (p : Package) → Stands u (filling u c) l p → opposes q (place l) ≡ conflicts (is_new (filling u c l)) p q
  opposing q l p st =
      one_has (λ p. conflicts (is_new (value_in (place l))) p q) (package_in (place l)) p (stands l p st)
      ∙ ap (λ (v : Value). conflicts (is_new v) p q) (value_at l p st)

  -- a place of the list is that of a line
  of_line : (s : Place) → Has (places u c) s → (l : ℕ) × (l < lines u) × (s ≡ place_at u c l)
  of_line s h =
      let r = has-map_back (place_at u c) (numbers (lines u) 0) s h in
      let b = numbers_have (lines u) 0 r.0 r.1 in
      let less = b.1 in
      (r.0, omega (arith, less), sym r.2)

  has_place : (l : ℕ) → l < lines u → Has (places u c) (place_at u c l)
  has_place l less = has-map (place_at u c) (numbers (lines u) 0) l (has_numbers (lines u) 0 l (omega arith) (omega (arith, less)))

  -- where each obligation stands in the list
  in_line : (l : ℕ) (o : Obligation) → l < lines u → Has (obligations_of (lines u) l) o → Has all o
  in_line l o less h =
      has-append_right (map (λ a. wanted a) u.wanted) (flat_map (λ l. obligations_of (lines u) l) (numbers (lines u) 0) ++ map (λ l. absence l) (numbers (lines u) 0)) o
      (has-append_left (flat_map (λ l. obligations_of (lines u) l) (numbers (lines u) 0)) (map (λ l. absence l) (numbers (lines u) 0)) o
      (has-flat_map (λ l. obligations_of (lines u) l) (numbers (lines u) 0) l o (has_numbers (lines u) 0 l (omega arith) (omega (arith, less))) h))

  some_class : (class : Class) → Has classes class
  some_class Rdepend = inl refl
  some_class Pdepend = inr (inl refl)
  some_class Depend = inr (inr (inl refl))
  some_class Bdepend = inr (inr (inr (inl refl)))
  some_class Idepend = inr (inr (inr (inr (inl refl))))

  not_of_line : (l : ℕ) (a : AtomValue) → ¬ Has (obligations_of (lines u) l) (wanted a)
  not_of_line l a (inl e) = cc e
  not_of_line l a (inr h) = elim (has-append_cases (map (λ m. conflict l m) (numbers (lines u) 0)) (map (λ class. tree l class) classes) (wanted a) h) [
    | inl one ↦ (let r = has-map_back (λ m. conflict l m) (numbers (lines u) 0) (wanted a) one in let e = r.2 in cc e)
    | inr other ↦ (let r = has-map_back (λ class. tree l class) classes (wanted a) other in let e = r.2 in cc e)
  ]

  is_wanted : (a : AtomValue) → Has all (wanted a) → Has u.wanted a
  is_wanted a h = elim (has-append_cases (map (λ a. wanted a) u.wanted) (flat_map (λ l. obligations_of (lines u) l) (numbers (lines u) 0) ++ map (λ l. absence l) (numbers (lines u) 0)) (wanted a) h) [
    | inl one ↦ (let r = has-map_back (λ a. wanted a) u.wanted (wanted a) one in let e = r.2 in let same : r.0 ≡ a = cc e in subst (λ x. Has u.wanted x) same r.1)
    | inr rest ↦ absurd (elim (has-append_cases (flat_map (λ l. obligations_of (lines u) l) (numbers (lines u) 0)) (map (λ l. absence l) (numbers (lines u) 0)) (wanted a) rest) [
      | inl one ↦ (let r = has-flat_map_back (λ l. obligations_of (lines u) l) (numbers (lines u) 0) (wanted a) one in not_of_line r.0 a r.2)
      | inr other ↦ (let r = has-map_back (λ l. absence l) (numbers (lines u) 0) (wanted a) other in let e = r.2 in cc e)
    ])
  ]

  decided_is : (l : ℕ) (v : Value) (a : AtomValue) → decided c l ≡ Some v → decides a (place_at u c l) ≡ is_one (λ p. value_matches a p.facts []) (package_of (offer_at u l) v)
  decided_is l v a d = ap (λ (x : Option Value). is_one (λ p. value_matches a p.facts []) (option_and_then (package_of (offer_at u l)) x)) d

  no_decider : (a : AtomValue) → ((l : ℕ) (v : Value) (p : Package) → l < lines u → decided c l ≡ Some v → package_of (offer_at u l) v ≡ Some p → value_matches a p.facts [] ≡ false) → list_any (decides a) ss ≡ false
  no_decider a none = any_none (decides a) ss (λ s h.
      let r = of_line s h in
      ap (decides a) r.2 ∙ by_case r.0 r.1 (decided c r.0) refl) where
        by_case : (l : ℕ) → l < lines u → (x : Option Value) → decided c l ≡ x → decides a (place_at u c l) ≡ false
        by_case l less None d = ap (λ (x : Option Value). is_one (λ p. value_matches a p.facts []) (option_and_then (package_of (offer_at u l)) x)) d
        by_case l less (Some v) d = decided_is l v a d ∙ one_not (λ p. value_matches a p.facts []) (package_of (offer_at u l) v) (λ p is. none l v p less d is)

  gone_is : (x : Option Value) → is_gone x ≡ true → x ≡ Some absent
  gone_is None e = absurd (cc e)
  gone_is (Some keep) e = absurd (cc e)
  gone_is (Some absent) e = refl
  gone_is (Some (variant i)) e = absurd (cc e)

  met_here : Class → Package → Bool
  met_here class p = is_met (facts_of (packages_in ss)) class p

  same_met : (class : Class) (p : Package) → is_met (facts_of (packages u (filling u c))) class p ≡ is_met (facts_of (packages_in ss)) class p
  same_met class p = ap (λ (ps : List Package). is_met (facts_of ps) class p) (packages_are u c)

  -- what passes the test is open
  pub tests_open : (o : Obligation) → Has all o → is_open_of ss o ≡ true → IsOpen u c o
  tests_open (wanted a) h e = (
    is_wanted a h,
    λ l v p less d is.
        let none = none_passes (decides a) ss (not-true (list_any (decides a) ss) e) (place_at u c l) (has_place l less) in
        sym (one_has (λ p. value_matches a p.facts []) (package_of (offer_at u l) v) p is) ∙ (sym (decided_is l v a d) ∙ none),
  )
  tests_open (required l) h e =
      let one = one_is (λ p. not (fits_required p)) (package_in (place l)) e in
      (one.0, there l one.0 one.1, not-true (fits_required one.0) one.2)
  tests_open (conflict l m) h e =
      let both = and_parts (not (nat_eq l m)) (is_one (λ q. opposes q (place l)) (package_in (place m))) e in
      let other = one_is (λ q. opposes q (place l)) (package_in (place m)) both.1 in
      let one = opposed other.0 l other.2 in
      let apart = not-true (nat_eq l m) both.0 in
      (one.0, other.0, one.1, there m other.0 other.1, λ same. (let equal : nat_eq l m ≡ true = ap (nat_eq l) (sym same) ∙ eq-eqb l l refl in let bad : true ≡ false = sym equal ∙ apart in cc bad), one.2)
  tests_open (tree l class) h e =
      let both = and_parts (counts class (value_in (place l))) (is_one (λ p. not (is_met (facts_of (packages_in ss)) class p)) (package_in (place l))) e in
      let one = one_is (λ p. not (is_met (facts_of (packages_in ss)) class p)) (package_in (place l)) both.1 in
      let st = there l one.0 one.1 in
      (one.0, st, ap (counts class) (sym (value_at l one.0 st)) ∙ both.0, same_met class one.0 ∙ not-true (is_met (facts_of (packages_in ss)) class one.0) one.2)
  tests_open (absence l) h e =
      let both = and_parts (is_gone (place l).decided) (is_one (λ z. not (list_any (opposes z) ss)) (place l).offer.installed) e in
      elim (cases_lt l (lines u)) [
        | inl less ↦ (
            let at_line = place_is l less in
            let one = one_is (λ z. not (list_any (opposes z) ss)) (place l).offer.installed both.1 in (
              one.0,
              less,
              gone_is (decided c l) (ap (λ (s : Place). is_gone s.decided) (sym at_line) ∙ both.0),
              ap (λ (s : Place). s.offer.installed) (sym at_line) ∙ one.1,
              λ m q st.
                  let none = none_passes (opposes one.0) ss (not-true (list_any (opposes one.0) ss) one.2) (place_at u c m) (has_place m st.there) in
                  sym (opposing one.0 m q st) ∙ (ap (opposes one.0) (place_is m st.there) ∙ none),
            ))
        | inr past ↦ absurd (let none : is_gone (place l).decided ≡ false = ap (λ (s : Place). is_gone s.decided) (place_past l past) in let some = both.0 in cc (none, some))
      ]

  -- what is open is in the list, and passes the test
  pub open_tests : (o : Obligation) → IsOpen u c o → Has all o × (is_open_of ss o ≡ true)
  open_tests (wanted a) o = (
    has-append_left (map (λ a. wanted a) u.wanted) (flat_map (λ l. obligations_of (lines u) l) (numbers (lines u) 0) ++ map (λ l. absence l) (numbers (lines u) 0)) (wanted a) (has-map (λ a. wanted a) u.wanted a o.0),
    ap not (no_decider a o.1),
  )
  open_tests (required l) o = (
    in_line l (required l) o.1.there (inl refl),
    one_has (λ p. not (fits_required p)) (package_in (place l)) o.0 (stands l o.0 o.1) ∙ ap not o.2,
  )
  open_tests (conflict l m) o = (
    in_line l (conflict l m) o.2.there (inr (has-append_left (map (λ m. conflict l m) (numbers (lines u) 0)) (map (λ class. tree l class) classes) (conflict l m)
        (has-map (λ m. conflict l m) (numbers (lines u) 0) m (has_numbers (lines u) 0 m (omega arith) (let less = o.3.there in omega (arith, less)))))),
    and_from (not (nat_eq l m)) (is_one (λ q. opposes q (place l)) (package_in (place m))) (ap not (apart (cases_Bool (nat_eq l m))))
        (one_has (λ q. opposes q (place l)) (package_in (place m)) o.1 (stands m o.1 o.3) ∙ (opposing o.1 l o.0 o.2 ∙ o.5)),
  ) where
    apart : (nat_eq l m ≡ true) ⊎ (nat_eq l m ≡ false) → nat_eq l m ≡ false
    apart (inl same) = absurd (o.4 (eqb-true l m same))
    apart (inr other) = other
  open_tests (tree l class) o = (
    in_line l (tree l class) o.1.there (inr (has-append_right (map (λ m. conflict l m) (numbers (lines u) 0)) (map (λ class. tree l class) classes) (tree l class) (has-map (λ class. tree l class) classes class (some_class class)))),
    and_from (counts class (value_in (place l))) (is_one (λ p. not (is_met (facts_of (packages_in ss)) class p)) (package_in (place l)))
        (ap (counts class) (value_at l o.0 o.1) ∙ o.2)
        (one_has (λ p. not (is_met (facts_of (packages_in ss)) class p)) (package_in (place l)) o.0 (stands l o.0 o.1) ∙ ap not (sym (same_met class o.0) ∙ o.3)),
  )
  open_tests (absence l) o =
      let less = o.1 in
      let at_line = place_is l less in (
        has-append_right (map (λ a. wanted a) u.wanted) (flat_map (λ l. obligations_of (lines u) l) (numbers (lines u) 0) ++ map (λ l. absence l) (numbers (lines u) 0)) (absence l)
            (has-append_right (flat_map (λ l. obligations_of (lines u) l) (numbers (lines u) 0)) (map (λ l. absence l) (numbers (lines u) 0)) (absence l)
            (has-map (λ l. absence l) (numbers (lines u) 0) l (has_numbers (lines u) 0 l (omega arith) (omega (arith, less))))),
        and_from (is_gone (place l).decided) (is_one (λ z. not (list_any (opposes z) ss)) (place l).offer.installed)
            (ap (λ (s : Place). is_gone s.decided) at_line ∙ ap is_gone o.2)
            (ap (λ (s : Place). is_one (λ z. not (list_any (opposes z) ss)) s.offer.installed) at_line
            ∙ (one_has (λ z. not (list_any (opposes z) ss)) (offer_at u l).installed o.0 o.3 ∙ ap not (any_none (opposes o.0) ss (λ s h.
            let r = of_line s h in
            ap (opposes o.0) r.2 ∙ one_not (λ p. conflicts (is_new (value_in (place_at u c r.0))) p o.0) (package_in (place_at u c r.0)) (λ q is. o.4 r.0 q (record { there = r.1; is = is })))))),
      )

  pub taken : (o : Obligation) → first_open u c ≡ Some o → IsOpen u c o
  taken o e = let r = found_passes (is_open_of ss) all o e in tests_open o r.0 r.1

  pub nothing : first_open u c ≡ None → (o : Obligation) → ¬ IsOpen u c o
  nothing e o open_now =
      let r = open_tests o open_now in
      let none = none_passes (is_open_of ss) all (none_found (is_open_of ss) all e) o r.0 in
      let some = r.1 in
      cc (none, some)

pub first_is_a_pick : FirstOpenIsAPick
first_is_a_pick u = record { some = taken u; none = nothing u }
