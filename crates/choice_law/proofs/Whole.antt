-- Good leaves are solutions, and each solution has a good leaf.
use Rattle.std.proofs.Common.{◌≡◌, ◌⊎◌, ◌<◌, ◌≤◌, ℕ, zero, suc, Bool, true, [], Option, None, Some, inl, inr, refl, sym, ap, subst, arith, ◌∙◌}
use Rattle.std.proofs.lemmas.Bool.{cases_Bool}
use Rattle.basics.specs.Members.{Has}
use Rattle.dep_atom.specs.Match.{value_matches}
use Rattle.dep_atom.specs.Values.{AtomValue}
use Rattle.pkg_state.specs.Consistent.{facts_of, fits_required, is_met}
use Rattle.pkg_state.specs.Package.{Package}
use Rattle.choice_law.specs.Universe.{Filling, IsValue, Stands, Universe, Value, absent, as_is, conflicts, is_new, keep, lines, offer_at, package_of, packages, standing}
use Rattle.choice_law.specs.Solutions.{IsSolution}
use Rattle.choice_law.specs.Tree.{Choice, IsGoodLeaf, IsNode, IsOpen, IsOption, IsPick, Obligation, absence, conflict, decided, filling, option, required, root, tree, wanted}
use Rattle.choice_law.specs.Laws.{Allows, DecidesValues, GoodLeavesAreSolutions, IsUniverse, SolutionsHaveLeaves}
use Rattle.choice_law.proofs.Lines.{decided_or_not, filling_decided, filling_free, free_below, hit_is, hits, no_hit, search_below, standing_is_value}
use Rattle.choice_law.proofs.Options.{some_option}
use Rattle.choice_law.proofs.Steps.{allows_later, option_extends, option_fewer, option_values}

module _ (u : Universe) where
  none_decided : DecidesValues u []
  none_decided l v there d = absurd (let bad : ◌≡◌ {A = Option Value} None (Some v) = d in cc bad)

  node_values : (pick : Choice → Option Obligation) (c : Choice) → IsNode u pick c → DecidesValues u c
  node_values pick c root = none_decided
  node_values pick c (option b e o node picked is) = option_values u b o c (node_values pick b node) is

  module _ (c : Choice) (good : DecidesValues u c) (closed : (o : Obligation) → ¬ IsOpen u c o) where
    values : (l : ℕ) → l < lines u → IsValue (offer_at u l) (filling u c l)
    values l there = elim (decided_or_not c l) [
      | inl none ↦ subst (λ (v : Value). IsValue (offer_at u l) v) (sym (filling_free u c l none)) (standing_is_value (offer_at u l))
      | inr some ↦ subst (λ (v : Value). IsValue (offer_at u l) v) (sym (filling_decided u c l some.0 some.1)) (good l some.0 there some.1)
    ]

    abbrev decided_package : ℕ → Option Value → Option Package
    decided_package l None = None
    decided_package l (Some v) = package_of (offer_at u l) v

    found_decided : (l : ℕ) (p : Package) (x : Option Value) → decided_package l x ≡ Some p → (v : Value) × (x ≡ Some v) × (package_of (offer_at u l) v ≡ Some p)
    found_decided l p None e = absurd (let bad : ◌≡◌ {A = Option Package} None (Some p) = e in cc bad)
    found_decided l p (Some v) e = (v, refl, e)

    wanted_there : (a : AtomValue) → Has u.wanted a → (l : ℕ) × (p : Package) × Stands u (filling u c) l p × (value_matches a p.facts [] ≡ true)
    wanted_there a h =
        let test : Package → Bool = λ p. value_matches a p.facts [] in
        elim (search_below (λ l. hits (decided_package l (decided c l)) test) (lines u)) [
          | inl found ↦ (
              let hit = hit_is (decided_package found.0 (decided c found.0)) test found.2 in
              let d = found_decided found.0 hit.0 (decided c found.0) hit.1 in
              (found.0, hit.0, record { there = found.1; is = ap (λ (v : Value). package_of (offer_at u found.0) v) (filling_decided u c found.0 d.0 d.1) ∙ d.2 }, hit.2))
          | inr none ↦ absurd (closed (wanted a) (
            h,
            λ l v p there d is.
                no_hit (decided_package l (decided c l)) test p (none l there) (ap (λ (x : Option Value). decided_package l x) d ∙ is),
          ))
        ]

    cleared : (l : ℕ) (z : Package) → l < lines u → filling u c l ≡ absent → (offer_at u l).installed ≡ Some z → (m : ℕ) × (q : Package) × Stands u (filling u c) m q × (conflicts (is_new (filling u c m)) q z ≡ true)
    cleared l z there gone was =
        elim (search_below (λ m. hits (package_of (offer_at u m) (filling u c m)) (λ q. conflicts (is_new (filling u c m)) q z)) (lines u)) [
          | inl found ↦ (let hit = hit_is (package_of (offer_at u found.0) (filling u c found.0)) (λ q. conflicts (is_new (filling u c found.0)) q z) found.2 in
              (found.0, hit.0, record { there = found.1; is = hit.1 }, hit.2))
          | inr none ↦ absurd (elim (decided_or_not c l) [
            | inl free ↦ (
                let kept : as_is u l ≡ keep = ap standing was in
                let both : keep ≡ absent = sym kept ∙ sym (filling_free u c l free) ∙ gone in
                cc both)
            | inr some ↦ (
                let is : some.0 ≡ absent = sym (filling_decided u c l some.0 some.1) ∙ gone in
                closed (absence l) (
                  z,
                  there,
                  some.1 ∙ ap (λ (v : Value). Some v) is,
                  was,
                  λ m q st. no_hit (package_of (offer_at u m) (filling u c m)) (λ r. conflicts (is_new (filling u c m)) r z) q (none m st.there) st.is,
                ))
          ])
        ]

    -- a choice that decides values and leaves nothing open is a solution
    pub closed_solution : IsSolution u (filling u c)
    closed_solution = record {
      values = values;
      wanted = wanted_there;
      required = λ l p st. elim (cases_Bool (fits_required p)) [ inl e ↦ e | inr e ↦ absurd (closed (required l) (p, st, e)) ];
      peaceful = λ l m p q sp sq other. elim (cases_Bool (conflicts (is_new (filling u c l)) p q)) [ inr e ↦ e | inl e ↦ absurd (closed (conflict l m) (p, q, sp, sq, other, e)) ];
      met = λ l p class st counted. elim (cases_Bool (is_met (facts_of (packages u (filling u c))) class p)) [ inl e ↦ e | inr e ↦ absurd (closed (tree l class) (p, st, counted, e)) ];
      cleared = cleared;
    }

pub leaves_solve : GoodLeavesAreSolutions
leaves_solve u pick c picks good = closed_solution u c (node_values u pick c good.node) (picks.none c good.closed)

module _ (u : Universe) (pick : Choice → Option Obligation) (f : Filling) (form : IsUniverse u) (picks : IsPick u pick) (s : IsSolution u f) where
  -- an option that the solution allows
  allowed_option : (c : Choice) (o : Obligation) → Allows c f → IsOpen u c o → (e : Choice) × IsOption u c o e × Allows e f
  allowed_option c o allows open_now =
      let e = some_option u f form s c o open_now (λ l v h d. allows l v d) in
      (e.0, e.1, allows_later c e.0 f (option_extends u c o e.0 e.1) allows e.2)

  picked_or_not : (c : Choice) → (pick c ≡ None) ⊎ ((o : Obligation) × (pick c ≡ Some o))
  picked_or_not c = by_case (pick c) where
    by_case : (x : Option Obligation) → (x ≡ None) ⊎ ((o : Obligation) × (x ≡ Some o))
    by_case None = inl refl
    by_case (Some o) = inr (o, refl)

  down : (left : ℕ) (c : Choice) → IsNode u pick c → Allows c f → free_below c (lines u) ≤ left → (e : Choice) × IsGoodLeaf u pick e × Allows e f
  down zero c node allows few = elim (picked_or_not c) [
    | inl none ↦ (c, record { node = node; closed = none }, allows)
    | inr some ↦ absurd (
        let next = allowed_option c some.0 allows (picks.some c some.0 some.1) in
        let fewer = option_fewer u c some.0 next.0 next.1 in
        omega (arith, fewer, few))
  ]
  down (suc left) c node allows few = elim (picked_or_not c) [
    | inl none ↦ (c, record { node = node; closed = none }, allows)
    | inr some ↦ (
        let next = allowed_option c some.0 allows (picks.some c some.0 some.1) in
        let fewer = option_fewer u c some.0 next.0 next.1 in
        down left next.0 (option c next.0 some.0 node some.1 next.1) next.2 (omega (arith, fewer, few)))
  ]

  nothing_decided : Allows [] f
  nothing_decided l v d = absurd (let bad : ◌≡◌ {A = Option Value} None (Some v) = d in cc bad)

  some_leaf : (e : Choice) × IsGoodLeaf u pick e × Allows e f
  some_leaf = down (free_below [] (lines u)) [] root nothing_decided (omega arith)

pub solutions_leave : SolutionsHaveLeaves
solutions_leave u pick f form picks s = some_leaf u pick f form picks s
