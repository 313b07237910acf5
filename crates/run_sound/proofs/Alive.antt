-- Which packages are there when a group may come, whatever the order of the groups: those that
-- stand before it in the plan's order, of the lines that it clears.
use Rattle.std.proofs.Common.{◌≡◌, ◌∙◌, ◌++◌, ◌≤◌, ◌<◌, ◌+◌, ℕ, suc, Bool, true, false, List, [], ◌∷◌, ap, arith, filter, inl, inr, length, map, not, refl, subst, sym}
use Rattle.std.proofs.lemmas.Bool.{cases_Bool, cases_eq, cases_order}
use Rattle.std.proofs.lemmas.List.{map-append}
use Rattle.basics.specs.Members.{AreDistinct, Has}
use Rattle.basics.proofs.Membership.{distinct-apart, has-filter, has-map}
use Rattle.dep_atom.specs.declared.package.PackageId.{PackageId}
use Rattle.pkg_state.specs.Package.{Package, line_of}
use Rattle.plan_law.specs.Accepted.{Changes, IsAccepted}
use Rattle.plan_law.specs.Lives.{ComesBefore, Enters, IsCleared, IsLife, Life, Moment, StandsBefore, commit, first_after, never, opening}
use Rattle.plan_law.specs.Plans.{Group, Reaches, WaitsForEarlier, after, changed, clears, group_at}
use Rattle.plan_law.specs.Sound.{IsSound}
use Rattle.plan_law.proofs.Closed.{HasCome, IsAlive, IsClosed, not_behind, reached, reached_before}
use Rattle.plan_law.proofs.There.{AreThere, all_done, there_at_first, there_behind}
use Rattle.plan_law.proofs.Whole.{run_done, run_is_done}
use Rattle.run_plan.proofs.Beginnings.{below, below_less, less_below, runs_below}

abbrev pub AcceptedAreSound : Type 0
AcceptedAreSound = (plan : List Group) (start : List Package) → WaitsForEarlier plan → IsAccepted plan start → IsSound plan start

-- what is there behind one group more
pub after_push : (plan : List Group) (ps : List Package) (run : List ℕ) (g : ℕ) → after plan ps (run ++ g ∷ []) ≡ changed (group_at plan g) (after plan ps run)
after_push plan ps [] g = refl
after_push plan ps (x ∷ run) g = after_push plan (changed (group_at plan x) ps) run g

-- a life may end no earlier than behind its birth
never_at_first : (plan : List Group) (from : ℕ) (line : List ℕ) (d : Moment) → IsCleared plan from line d → HasCome [] d → ⊥
never_at_first plan from line opening c h = c
never_at_first plan from line (commit g) c h = h
never_at_first plan from line never c h = h

-- a package of the opening is there before any group
pub alive_at_first : (plan : List Group) (start : List Package) (x : Life) → IsLife plan start x → x.birth ≡ opening → IsAlive [] x
alive_at_first plan start x is at_first = record {
  born = subst (λ (b : Moment). HasCome [] b) (sym at_first) tt;
  stays = never_at_first plan (first_after x.birth) (line_of x.package_is.facts) x.death is.leaves;
}

come_less : (done : List ℕ) (g : ℕ) (m : Moment) → HasCome done m → HasCome (g ∷ done) m
come_less done g opening h = tt
come_less done g (commit k) h = inr h
come_less done g never h = h

-- what stands before a group by its place is born by then
pub from_before : (b : Moment) (g : ℕ) → ComesBefore b g → first_after b ≤ g
from_before opening g c = omega arith
from_before (commit h) g c = omega (arith, c)
from_before never g c = absurd c

pub later_too : (d : Moment) (k g : ℕ) → ComesBefore d (suc k) → k < g → ComesBefore d g
later_too opening k g c less = tt
later_too (commit h) k g c less = omega (arith, c, less)
later_too never k g c less = c

module _ (plan : List Group) (start : List Package) (earlier : WaitsForEarlier plan) (ok : IsAccepted plan start) where
  -- of two groups that change one line the later waits for the earlier
  waits : (h g : ℕ) (line : List ℕ) → h < g → Changes plan h line → Changes plan g line → Reaches plan g h
  waits h g line less ch cg = elim (ok.ordered h g line less ch cg) [
    | inl r ↦ r
    | inr r ↦ absurd (let back = not_behind plan earlier h g r in omega (arith, back, less))
  ]

  -- ---- when a group may come

  module _ (done : List ℕ) (closed : IsClosed plan done) (g : ℕ) (waited : (h : ℕ) → Has (group_at plan g).after h → Has done h) (undone : ¬ Has done g) where
    -- of those that change a line with it just the earlier ones are done
    earlier_done : (h : ℕ) (line : List ℕ) → h < g → Changes plan h line → Changes plan g line → Has done h
    earlier_done h line less ch cg = elim (reached_before plan done closed g waited h (waits h g line less ch cg)) [
      | inl e ↦ absurd (omega (arith, e, less))
      | inr d ↦ d
    ]

    later_undone : (h : ℕ) (line : List ℕ) → g < h → Changes plan g line → Changes plan h line → ¬ Has done h
    later_undone h line less cg ch d = undone (reached plan done closed h g (waits g h line less cg ch) d)

    done_earlier : (h : ℕ) (line : List ℕ) → Has done h → Changes plan h line → Changes plan g line → h < g
    done_earlier h line d ch cg = elim (cases_order h g) [
      | inl same ↦ absurd (undone (subst (λ (n : ℕ). Has done n) same d))
      | inr (inl less) ↦ less
      | inr (inr more) ↦ absurd (later_undone h line more cg ch d)
    ]

    has_come : (p : Package) (b : Moment) → Enters plan start b p → ComesBefore b g → clears (group_at plan g) (line_of p.facts) ≡ true → HasCome done b
    has_come p opening enters c e = tt
    has_come p (commit h) enters c e = earlier_done h (line_of p.facts) c (inr (p, enters, refl)) (inl e)
    has_come p never enters c e = c

    not_gone : (line : List ℕ) (from : ℕ) (d : Moment) → IsCleared plan from line d → ¬ ComesBefore d g → from ≤ g → clears (group_at plan g) line ≡ true → ¬ HasCome done d
    not_gone line from opening c alive le e h = c
    not_gone line from (commit k) c alive le e h =
        let first = c.2 g le e in
        elim (cases_eq k g) [
          | inl same ↦ undone (subst (λ (n : ℕ). Has done n) same h)
          | inr other ↦ alive (omega (arith, first, other))
        ]
    not_gone line from never c alive le e h = h

    -- what stands before the group in the plan, on a line that it clears, is there
    pub stands_alive : (x : Life) → IsLife plan start x → StandsBefore g x → clears (group_at plan g) (line_of x.package_is.facts) ≡ true → IsAlive done x
    stands_alive x is s e = record {
      born = has_come x.package_is x.birth is.enters s.born e;
      stays = not_gone (line_of x.package_is.facts) (first_after x.birth) x.death is.leaves s.alive (from_before x.birth g s.born) e;
    }

    was_born : (p : Package) (b : Moment) → Enters plan start b p → HasCome done b → clears (group_at plan g) (line_of p.facts) ≡ true → ComesBefore b g
    was_born p opening enters h e = tt
    was_born p (commit k) enters h e = done_earlier k (line_of p.facts) h (inr (p, enters, refl)) (inl e)
    was_born p never enters h e = h

    was_gone : (line : List ℕ) (from : ℕ) (d : Moment) → IsCleared plan from line d → clears (group_at plan g) line ≡ true → ComesBefore d g → HasCome done d
    was_gone line from opening c e b = tt
    was_gone line from (commit k) c e b = earlier_done k line b (inl c.1) (inl e)
    was_gone line from never c e b = b

    -- .. and what is there stands before it
    pub alive_stands : (x : Life) → IsLife plan start x → IsAlive done x → clears (group_at plan g) (line_of x.package_is.facts) ≡ true → StandsBefore g x
    alive_stands x is a e = record {
      born = was_born x.package_is x.birth is.enters a.born e;
      alive = λ b. a.stays (was_gone (line_of x.package_is.facts) (first_after x.birth) x.death is.leaves e b);
    }

    -- ---- behind the group

    still_there : (line : List ℕ) (from : ℕ) (d : Moment) → IsCleared plan from line d → clears (group_at plan g) line ≡ false → ¬ HasCome done d → ¬ HasCome (g ∷ done) d
    still_there line from opening c none s h = c
    still_there line from (commit k) c none s (inl e) = absurd (let t : clears (group_at plan g) line ≡ true = ap (λ (n : ℕ). clears (group_at plan n) line) e ∙ c.1 in cc (none, t))
    still_there line from (commit k) c none s (inr h) = s h
    still_there line from never c none s h = h

    -- what the group leaves alone is still there
    pub alive_behind : (x : Life) → IsLife plan start x → IsAlive done x → clears (group_at plan g) (line_of x.package_is.facts) ≡ false → IsAlive (g ∷ done) x
    alive_behind x is a none = record {
      born = come_less done g x.birth a.born;
      stays = still_there (line_of x.package_is.facts) (first_after x.birth) x.death is.leaves none a.stays;
    }

    new_there : (line : List ℕ) (d : Moment) → Changes plan g line → IsCleared plan (g + 1) line d → ¬ HasCome (g ∷ done) d
    new_there line opening cg c h = c
    new_there line (commit k) cg c (inl e) = let past = c.0 in absurd (omega (arith, e, past))
    new_there line (commit k) cg c (inr h) = let past = c.0 in later_undone k line (omega (arith, past)) cg (inl c.1) h
    new_there line never cg c h = h

    -- .. and what it brings is there
    pub brought_alive : (p : Package) (d : Moment) → IsLife plan start (record { package_is = p; birth = commit g; death = d }) → IsAlive (g ∷ done) (record { package_is = p; birth = commit g; death = d })
    brought_alive p d is = record { born = inl refl; stays = new_there (line_of p.facts) d (inr (p, is.enters, refl)) is.leaves }

  -- ---- in the plan's own order

  -- the packages before the group at a place
  abbrev before : ℕ → List Package
  before k = after plan start (below k)

  abbrev done_before : ℕ → List ℕ
  done_before k = all_done plan start earlier ok (below k) []

  there_before : (k : ℕ) → k ≤ length plan → AreThere plan start (done_before k) (before k)
  there_before k le = there_behind plan start earlier ok (below k) [] start (there_at_first plan start earlier ok) (runs_below plan earlier k le)

  before_come : (m : Moment) (k : ℕ) → first_after m ≤ k → (m ≡ never → ⊥) → HasCome (done_before k) m
  before_come opening k le some = tt
  before_come (commit b) k le some = run_is_done plan start earlier ok (below k) [] b (less_below k b (omega (arith, le)))
  before_come never k le some = absurd (some refl)

  come_before : (m : Moment) (k : ℕ) → HasCome (done_before k) m → ComesBefore m (suc k)
  come_before opening k h = tt
  come_before (commit b) k h = elim (run_done plan start earlier ok (below k) [] b h) [
    | inl r ↦ (let less = below_less k b r in omega (arith, less))
    | inr none ↦ absurd none
  ]
  come_before never k h = h

  enters_some : (p : Package) (b : Moment) → Enters plan start b p → b ≡ never → ⊥
  enters_some p b enters e = subst (λ (m : Moment). Enters plan start m p) e enters

  not_cleared : (line : List ℕ) (from k : ℕ) (d : Moment) → IsCleared plan from line d → from ≤ k → ¬ ComesBefore d (suc k) → clears (group_at plan k) line ≡ true → ⊥
  not_cleared line from k opening c le alive e = c
  not_cleared line from k (commit h) c le alive e = let first = c.2 k le e in alive (omega (arith, first))
  not_cleared line from k never c le alive e = c k le e

  module _ (sound : AcceptedAreSound) (x : Life) (is : IsLife plan start x) (k : ℕ) (less : k < length plan) (from : first_after x.birth ≤ k) (alive : ¬ ComesBefore x.death (suc k)) where
    abbrev g : Group
    g = group_at plan k

    abbrev kept : Package → Bool
    kept p = not (clears g (line_of p.facts))

    abbrev id : Package → PackageId
    id p = p.facts.id

    stays_on : Has (filter kept (before k)) x.package_is
    stays_on =
        let there = (there_before k (omega (arith, less))).all x is (record {
          born = before_come x.birth k from (enters_some x.package_is x.birth is.enters);
          stays = λ h. alive (come_before x.death k h);
        }) in
        has-filter kept (before k) x.package_is there (elim (cases_Bool (clears g (line_of x.package_is.facts))) [
          | inl e ↦ absurd (not_cleared (line_of x.package_is.facts) (first_after x.birth) k x.death is.leaves from alive e)
          | inr e ↦ ap not e
        ])

    -- no group brings the name and the version of a package that is there on both sides of it
    pub not_brought : (a : Package) → Has (group_at plan k).additions a → a.facts.id ≡ x.package_is.facts.id → ⊥
    not_brought a has e =
        let all = (sound plan start earlier ok).versions (below (suc k)) (runs_below plan earlier (suc k) (omega (arith, less))) in
        let here : AreDistinct (map id (g.additions ++ filter kept (before k))) = subst (λ (l : List Package). AreDistinct (map id l)) (after_push plan start (below k) k) all in
        let parts : AreDistinct (map id g.additions ++ map id (filter kept (before k))) = subst (λ (l : List PackageId). AreDistinct l) (map-append id g.additions (filter kept (before k))) here in
        distinct-apart (map id g.additions) (map id (filter kept (before k))) (id a) parts (has-map id g.additions a has)
        (subst (λ (i : PackageId). Has (map id (filter kept (before k))) i) (sym e) (has-map id (filter kept (before k)) x.package_is stays_on))
