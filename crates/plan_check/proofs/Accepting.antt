-- Where no rule refuses, the plan is accepted, and the other way round.
use Rattle.std.proofs.Common.{◌≡◌, ◌⊎◌, ◌≤◌, ◌+◌, ◌-◌, ◌∙◌, ◌↔◌, ℕ, Bool, true, false, List, [], ◌∷◌, Option, None, bytes_eq, filter, inl, inr, refl, sym, ap, subst, arith}
use Rattle.std.proofs.lemmas.Bool.{both_ways, cases_Bool, cases_eq, false_from_ne_true, true_from_ne_false}
use Rattle.std.proofs.lemmas.List.Sorted.{IsPermutation-sym}
use Rattle.std.proofs.lemmas.Slice.Eq.{bytes_eq-Decides}
use Rattle.basics.specs.Members.{Has}
use Rattle.basics.proofs.Membership.{has-filter, has-filter_back, has-map, has-map_back}
use Rattle.basics.proofs.Permutations.{has-moved}
use Rattle.pkg_state.specs.Consistent.{blocks, facts_of, fits_required, is_met}
use Rattle.pkg_state.specs.Fault.{lacking_leaf}
use Rattle.pkg_state.specs.Package.{Package, line_of}
use Rattle.pkg_state.specs.declared.class.Class.{Class}
use Rattle.pkg_state.specs.declared.class.Class.TheVariants.{Bdepend, Depend, Idepend, Pdepend, Rdepend}
use Rattle.plan_law.specs.Plans.{Group, Removal, clears, group_at, no_group}
use Rattle.plan_law.specs.Lives.{Enters, IsCleared, IsLife, Life, Meets, Moment, commit, never, opening, stretch_of, until}
use Rattle.plan_law.specs.Accepted.{AreLeft, IsAccepted, IsFirmThrough}
use Rattle.plan_law.specs.Sound.{bars, is_of_build}
use Rattle.plan_law.proofs.There.{some_life}
use Rattle.plan_lives.specs.Lives.{lives}
use Rattle.plan_lives.specs.Left.{is_never, left_of}
use Rattle.plan_lives.proofs.AllLives.{has_lives}
use Rattle.plan_lives.proofs.Clears.{Stands, all_stand, rest_stands, stands_here}
use Rattle.plan_check.specs.Asks.{AskedValue, asking}
use Rattle.plan_check.specs.Binding.{AreBound, IsBound}
use Rattle.plan_check.specs.PackageRules.{IsBarred, IsBlocked, built_rule, finished_rule, if_left, lives_in, package_rule, plan_rule, required_rule, standing_rule, strong_rule, tried_key, weak_rule}
use Rattle.plan_rules.specs.Order.{AreInOrder, life_key, number_of}
use Rattle.plan_rules.specs.Refusals.{Refusal, Refusal as refused}
use Rattle.plan_rules.specs.Rules.{IsPresent, present_at}
use Rattle.plan_rules.specs.Verdicts.{both, demand, each_from, refuse}
use Rattle.plan_rules.proofs.Consistent.{same_met}
use Rattle.plan_rules.proofs.Hindered.{room_none, single_if, vacant_if, versions_if}
use Rattle.plan_rules.proofs.Sorting.{order_viewed}
use Rattle.plan_rules.proofs.Trying.{each_none, each_passed}
use Rattle.plan_check.proofs.Binds.{binding_none, bound, life_asked, lives_asked, some_asked}
use Rattle.plan_check.proofs.KeptOut.{bars_kept, blocked_by, kind_blocks}

module _ {E : Type 0} (plan : List Group) (J : ℕ → Group → Option E → Type 0) where
  -- the rule lets pass at each place of the plan
  from_passed : (rest : List Group) (n : ℕ) → Stands plan n rest → each_from n rest J None → (g : ℕ) → n ≤ g → J g (group_at plan g) None ⊎ (group_at plan g ≡ no_group)
  from_passed [] n s h g le = inr (s g (g - n) (omega (arith, le)))
  from_passed (group ∷ rest) n s h g le = elim (cases_eq n g) [
    | inl same ↦ inl (subst (λ (k : ℕ). J k (group_at plan k) None) same (subst (λ (x : Group). J n x None) (sym (stands_here plan n group rest s)) h.0))
    | inr other ↦ from_passed rest (n + 1) (rest_stands plan n group rest s) h.1 g (omega (arith, le, other))
  ]

  from_none : (rest : List Group) (n : ℕ) → Stands plan n rest → ((g : ℕ) → J g (group_at plan g) None) → each_from n rest J None
  from_none [] n s all = tt
  from_none (group ∷ rest) n s all = (subst (λ (x : Group). J n x None) (stands_here plan n group rest s) (all n), from_none rest (n + 1) (rest_stands plan n group rest s) all)

module _ (plan : List Group) (start : List Package) where
  abbrev xs : List Life
  xs = lives plan start

  listed : (x : Life) → IsLife plan start x → Has xs x
  listed x is = (has_lives plan start x).1 is

  -- the life of an addition
  brought : (g : ℕ) (p : Package) → Has (group_at plan g).additions p → (d : Moment) × IsLife plan start (record { package_is = p; birth = commit g; death = d })
  brought g p h = some_life plan start p (commit g) h

  same_line : (a b : List ℕ) → ¬ (¬ (a ≡ b)) → a ≡ b
  same_line a b h = elim (cases_Bool (bytes_eq a b)) [
    | inl y ↦ (bytes_eq-Decides a b).0 y
    | inr n ↦ absurd (h (λ e. both_ways (bytes_eq a b) n ((bytes_eq-Decides a b).1 e)))
  ]

  never_is : (m : Moment) → is_never m ≡ true → m ≡ never
  never_is opening e = absurd (cc e)
  never_is (commit g) e = absurd (cc e)
  never_is never e = refl

  is_never_at : (m : Moment) → m ≡ never → is_never m ≡ true
  is_never_at m e = ap is_never e

  -- those that no group takes away
  pub left_are : AreLeft plan start (left_of plan start)
  left_are p = (
    (λ h. let k = has-map_back (λ (x : Life). x.package_is) (filter (λ (x : Life). is_never x.death) xs) p h in
        let m = has-filter_back (λ (x : Life). is_never x.death) xs k.0 k.1 in
        (k.0, (has_lives plan start k.0).0 m.0, never_is k.0.death m.1, k.2)),
    (λ x. subst (λ (q : Package). Has (left_of plan start) q) x.3
        (has-map (λ (y : Life). y.package_is) (filter (λ (y : Life). is_never y.death) xs) x.0
        (has-filter (λ (y : Life). is_never y.death) xs x.0 (listed x.0 x.1) (is_never_at x.0.death x.2)))),
  )

  finally : (ps : List Package) → AreLeft plan start ps → (p : Package) → Has ps p ↔ Has (left_of plan start) p
  finally ps left p = ((λ h. (left_are p).1 ((left p).0 h)), (λ h. (left p).1 ((left_are p).0 h)))

  -- where a line is never cleared, neither is it from a later place on
  not_later : (line : List ℕ) (from : ℕ) (d : Moment) → IsCleared plan 0 line never → IsCleared plan from line d → d ≡ never
  not_later line from opening all c = absurd c
  not_later line from (commit g) all c = absurd (all g (omega arith) c.1)
  not_later line from never all c = refl

  abbrev NotMet : Package → Type 0
  NotMet p = is_met (facts_of (left_of plan start)) Pdepend p ≡ false

  module _ (asks : List AskedValue) (them : List (Life × AskedValue)) (order : AreInOrder tried_key (asking (lives plan start) asks) them) where
    abbrev all : List Life
    all = lives_in them

    -- the lives stand in their order
    pub lives_order : AreInOrder life_key (lives plan start) all
    lives_order = subst (λ (ys : List Life). AreInOrder life_key ys all) (lives_asked xs asks) (order_viewed (λ (it : Life × AskedValue). it.0) life_key (asking xs asks) them order)

    in_all : (y : Life) → IsLife plan start y → Has all y
    in_all y is = has-moved xs all y lives_order.moved (listed y is)

    of_all : (y : Life) → Has all y → IsLife plan start y
    of_all y h = (has_lives plan start y).0 (has-moved all xs y (IsPermutation-sym xs all lives_order.moved) h)

    -- the rules of a package without that of its binds
    abbrev unbound_rule : Life → Option Refusal → Type 0
    unbound_rule x = both (required_rule x) (standing_rule plan start all x)

    module _ (h : plan_rule plan start all them None) where
      asked_passed : (x : Life) (asked : AskedValue) → Has (asking xs asks) (x, asked) → package_rule plan start all (x, asked) None
      asked_passed x asked has = each_passed them (package_rule plan start all) h.1.1.1.1 (x, asked) (has-moved (asking xs asks) them (x, asked) order.moved has)

      package_passed : (x : Life) → IsLife plan start x → unbound_rule x None
      package_passed x is =
          let k = some_asked xs asks x (listed x is) in
          let passed = asked_passed x k.0 k.1 in (passed.0.0, passed.1)

      pub all_bound : AreBound plan start asks
      all_bound x asked has = bound plan start x.package_is x.birth x.death asked (asked_passed x asked has).0.1

      addition_passed : (g : ℕ) (p : Package) → Has (group_at plan g).additions p → (d : Moment) × unbound_rule (record { package_is = p; birth = commit g; death = d }) None
      addition_passed g p has = let k = brought g p has in (k.0, package_passed (record { package_is = p; birth = commit g; death = k.0 }) k.1)

      present : (g : ℕ) (r : Removal) → Has (group_at plan g).removals r → IsPresent plan start g r
      present g r has = elim (from_passed plan (present_at plan start) plan 0 (all_stand plan) h.1.0 g (omega arith)) [
        | inl passed ↦ each_passed (group_at plan g).removals (λ (r : Removal). demand (IsPresent plan start g r) (refused.Absent (g + 1) r.id)) passed r has
        | inr e ↦ absurd (subst (λ (x : Group). Has x.removals r) e has)
      ]

      not_blocked : (strong : Bool) (x y : Life) → IsLife plan start x → IsLife plan start y → ¬ IsBlocked plan strong x y
      not_blocked false x y isx isy m = each_passed all (λ (y : Life). refuse (IsBlocked plan false x y) (refused.Blocked x.package_is.facts.id y.package_is.facts.id))
          (package_passed x isx).1.1.0 y (in_all y isy) m
      not_blocked true x y isx isy m = each_passed all (λ (y : Life). refuse (IsBlocked plan true x y ⊎ IsBarred plan x.package_is x.birth y) (refused.Barred (number_of x.birth) x.package_is.facts.id y.package_is.facts.id))
          (package_passed x isx).1.1.1.0 y (in_all y isy) (inl m)

      unblocked : (x y : Life) → IsLife plan start x → IsLife plan start y → Meets plan (stretch_of x) y → blocks x.package_is y.package_is ≡ false
      unblocked x y isx isy meets = false_from_ne_true (blocks x.package_is y.package_is) (λ e.
          let k = blocked_by x.package_is y.package_is e in not_blocked k.0 x y isx isy (meets, k.1))

      unbarred : (g : ℕ) (p : Package) (y : Life) → Has (group_at plan g).additions p → IsLife plan start y → Meets plan (until g) y → bars p y.package_is ≡ false
      unbarred g p y has is meets = false_from_ne_true (bars p y.package_is) (λ e.
          let k = addition_passed g p has in
          each_passed all (λ (y : Life). refuse (IsBlocked plan true (record { package_is = p; birth = commit g; death = k.0 }) y ⊎ IsBarred plan p (commit g) y) (refused.Barred (g + 1) p.facts.id y.package_is.facts.id))
          k.1.1.1.1.0 y (in_all y is) (inr (meets, bars_kept p y.package_is ∙ e)))

      built : (g : ℕ) (p : Package) (class : Class) → Has (group_at plan g).additions p → is_of_build class ≡ true → IsFirmThrough plan start (until g) class p
      built g p Rdepend has e = absurd (cc e)
      built g p Pdepend has e = absurd (cc e)
      built g p Depend has e = (addition_passed g p has).1.1.1.1.1.0.0
      built g p Bdepend has e = (addition_passed g p has).1.1.1.1.1.0.1.0
      built g p Idepend has e = (addition_passed g p has).1.1.1.1.1.0.1.1

      met_later : (g : ℕ) (p : Package) (d : Moment) → unbound_rule (record { package_is = p; birth = commit g; death = d }) None → d ≡ never → ¬ NotMet p
      met_later g p d passed e = subst (λ (m : Moment). if_left m (refuse (NotMet p) (refused.Final p.facts.id (lacking_leaf (facts_of (left_of plan start)) Pdepend p))) None) e passed.1.1.1.1.1

      stays_met : (g : ℕ) (p q : Package) (b d : Moment) → Has (group_at plan g).additions p → IsLife plan start (record { package_is = q; birth = b; death = d }) → d ≡ never → q ≡ p → ¬ NotMet p
      stays_met g p q opening d has is e same =
          let never_cleared : IsCleared plan 0 (line_of p.facts) never = subst (λ (z : Package). IsCleared plan 0 (line_of z.facts) never) same (subst (λ (m : Moment). IsCleared plan 0 (line_of q.facts) m) e is.leaves) in
          let k = brought g p has in
          met_later g p k.0 (package_passed (record { package_is = p; birth = commit g; death = k.0 }) k.1) (not_later (line_of p.facts) (g + 1) k.0 never_cleared k.1.leaves)
      stays_met g p q (commit h) d has is e same = subst (λ (z : Package). ¬ NotMet z) same (met_later h q d (package_passed (record { package_is = q; birth = commit h; death = d }) is) e)
      stays_met g p q never d has is e same = absurd is.enters

      finished : (g : ℕ) (p : Package) (ps : List Package) → Has (group_at plan g).additions p → AreLeft plan start ps → Has ps p → is_met (facts_of ps) Pdepend p ≡ true
      finished g p ps has left there =
          let x = (left p).0 there in
          same_met ps (left_of plan start) (finally ps left) Pdepend p
          ∙ true_from_ne_false (is_met (facts_of (left_of plan start)) Pdepend p) (stays_met g p x.0.package_is x.0.birth x.0.death has x.1 x.2 x.3)

      pub accepted : IsAccepted plan start
      accepted = record {
        ordered = h.0;
        present = present;
        vacant = λ g p x has is stands twin. true_from_ne_false (clears (group_at plan g) (line_of p.facts)) (λ off. vacant_if plan start all lives_order h.1.1.0 g p x has is (record { stands = stands; twin = twin; stays = off }));
        single = single_if plan start all lives_order h.1.1.0;
        versions = λ x y isx isy meets same. same_line (line_of x.package_is.facts) (line_of y.package_is.facts) (λ apart. versions_if plan start all lives_order h.1.1.0 x y isx isy (record { meets = meets; same = same; apart = apart }));
        consistent = h.1.1.1.0;
        required = λ g p has. true_from_ne_false (fits_required p) (addition_passed g p has).1.0;
        lasting = λ x is. (package_passed x is).1.0;
        unblocked = unblocked;
        unbarred = unbarred;
        built = built;
        finished = finished;
      }

    -- an accepted plan whose binds are right passes every rule
    module _ (ok : IsAccepted plan start) (right : AreBound plan start asks) where
      is_life : (x : Life) → Has xs x → IsLife plan start x
      is_life x h = (has_lives plan start x).0 h

      required_none : (p : Package) (b d : Moment) → Enters plan start b p → required_rule (record { package_is = p; birth = b; death = d }) None
      required_none p opening d e = tt
      required_none p (commit g) d e = λ off. both_ways (fits_required p) off (ok.required g p e)
      required_none p never d e = tt

      weak_none : (x : Life) → IsLife plan start x → weak_rule plan all x None
      weak_none x is = each_none all (λ (y : Life). refuse (IsBlocked plan false x y) (refused.Blocked x.package_is.facts.id y.package_is.facts.id)) (λ y h m.
          both_ways (blocks x.package_is y.package_is) (ok.unblocked x y is (of_all y h) m.0) (kind_blocks x.package_is y.package_is false m.1))

      not_barred : (p : Package) (b : Moment) → Enters plan start b p → (y : Life) → Has all y → ¬ IsBarred plan p b y
      not_barred p opening e y h m = m
      not_barred p (commit g) e y h m = both_ways (bars p y.package_is) (ok.unbarred g p y e (of_all y h) m.0) (sym (bars_kept p y.package_is) ∙ m.1)
      not_barred p never e y h m = m

      strong_none : (x : Life) → IsLife plan start x → strong_rule plan all x None
      strong_none x is = each_none all (λ (y : Life). refuse (IsBlocked plan true x y ⊎ IsBarred plan x.package_is x.birth y) (refused.Barred (number_of x.birth) x.package_is.facts.id y.package_is.facts.id)) (λ y h m. elim m [
        | inl one ↦ both_ways (blocks x.package_is y.package_is) (ok.unblocked x y is (of_all y h) one.0) (kind_blocks x.package_is y.package_is true one.1)
        | inr bar ↦ not_barred x.package_is x.birth is.enters y h bar
      ])

      built_none : (p : Package) (b d : Moment) → Enters plan start b p → built_rule plan start (record { package_is = p; birth = b; death = d }) None
      built_none p opening d e = tt
      built_none p (commit g) d e = (ok.built g p Depend e refl, (ok.built g p Bdepend e refl, ok.built g p Idepend e refl))
      built_none p never d e = tt

      final_none : (g : ℕ) (p : Package) (d : Moment) → IsLife plan start (record { package_is = p; birth = commit g; death = d }) → if_left d (refuse (NotMet p) (refused.Final p.facts.id (lacking_leaf (facts_of (left_of plan start)) Pdepend p))) None
      final_none g p opening is = tt
      final_none g p (commit k) is = tt
      final_none g p never is = λ off. both_ways (is_met (facts_of (left_of plan start)) Pdepend p) off (ok.finished g p (left_of plan start) is.enters left_are ((left_are p).1 (record { package_is = p; birth = commit g; death = never }, is, refl, refl)))

      finished_none : (p : Package) (b d : Moment) → IsLife plan start (record { package_is = p; birth = b; death = d }) → finished_rule plan start (record { package_is = p; birth = b; death = d }) None
      finished_none p opening d is = tt
      finished_none p (commit g) d is = final_none g p d is
      finished_none p never d is = tt

      package_none : (x : Life) (asked : AskedValue) → IsLife plan start x → IsBound plan start x.birth x.package_is asked → package_rule plan start all (x, asked) None
      package_none x asked is binds = (
        (required_none x.package_is x.birth x.death is.enters, binding_none plan start x.package_is x.birth x.death asked binds),
        (ok.lasting x is, (weak_none x is, (strong_none x is, (built_none x.package_is x.birth x.death is.enters, finished_none x.package_is x.birth x.death is)))),
      )

      tried_none : (it : Life × AskedValue) → Has them it → package_rule plan start all it None
      tried_none it h =
          let has = has-moved them (asking xs asks) it (IsPermutation-sym (asking xs asks) them order.moved) h in
          package_none it.0 it.1 (is_life it.0 (life_asked xs asks it.0 it.1 has)) (right it.0 it.1 has)

      pub none_refuses : plan_rule plan start all them None
      none_refuses = (
        ok.ordered,
        (
          from_none plan (present_at plan start) plan 0 (all_stand plan) (λ g. each_none (group_at plan g).removals (λ (r : Removal). demand (IsPresent plan start g r) (refused.Absent (g + 1) r.id)) (λ r h. ok.present g r h)),
          (
            room_none plan start all lives_order
                (λ g p y hp isy k. both_ways (clears (group_at plan g) (line_of p.facts)) k.stays (ok.vacant g p y hp isy k.stands k.twin)) ok.single
                (λ x y isx isy k. k.apart (ok.versions x y isx isy k.meets k.same)),
            (ok.consistent, each_none them (package_rule plan start all) tried_none),
          ),
        ),
      )
