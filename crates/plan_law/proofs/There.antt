-- The packages after a run are those whose lives have begun and haven't ended.
use Rattle.std.proofs.Common.{◌≡◌, ◌<◌, ◌≤◌, ◌+◌, ℕ, true, false, not, List, [], ◌∷◌, filter, inl, inr, refl, sym, ap, subst, arith, ◌∙◌}
use Rattle.std.proofs.lemmas.Bool.{cases_Bool, cases_eq, cases_order, not-true}
use Rattle.basics.specs.Members.{Has}
use Rattle.basics.proofs.Membership.{has-append_cases, has-append_left, has-append_right, has-filter, has-filter_back}
use Rattle.pkg_state.specs.Consistent.{AreApart}
use Rattle.pkg_state.specs.Package.{Package, line_of}
use Rattle.plan_law.specs.Plans.{Group, GoesOn, Reaches, WaitsForEarlier, after, changed, clears, group_at}
use Rattle.plan_law.specs.Lives.{ComesBefore, Enters, IsCleared, IsLife, Life, Moment, StandsBefore, commit, first_after, never, opening}
use Rattle.plan_law.specs.Accepted.{Changes, IsAccepted}
use Rattle.plan_law.proofs.Cleared.{some_first}
use Rattle.plan_law.proofs.Closed.{HasCome, IsAlive, IsClosed, not_behind, reached, reached_before}
use Rattle.basics.proofs.Members.{distinct_filtered, distinct_joined}

abbrev pub line : Package → List ℕ
line p = line_of p.facts

-- what is there once these groups are done
pub record AreThere (plan : List Group) (start : List Package) (done : List ℕ) (ps : List Package) : Type 0 where
  pub closed : IsClosed plan done
  pub alive : (p : Package) → Has ps p → (x : Life) × IsLife plan start x × (x.package_is ≡ p) × IsAlive done x
  pub all : (x : Life) → IsLife plan start x → IsAlive done x → Has ps x.package_is
  pub apart : AreApart ps

-- a package that enters has a life
pub some_life : (plan : List Group) (start : List Package) (p : Package) (b : Moment) → Enters plan start b p → (d : Moment) × IsLife plan start (record { package_is = p; birth = b; death = d })
some_life plan start p b e = let k = some_first plan (line p) (first_after b) in (k.0, record { enters = e; leaves = k.1 })

module _ (plan : List Group) (start : List Package) (f : WaitsForEarlier plan) (ok : IsAccepted plan start) where
  -- of two groups that change one line the earlier reaches the later
  earlier_reaches : (g h : ℕ) (l : List ℕ) → g < h → Changes plan g l → Changes plan h l → Reaches plan h g
  earlier_reaches g h l less cg ch = elim (ok.ordered g h l less cg ch) [
    | inl r ↦ r
    | inr r ↦ absurd (let back = not_behind plan f g h r in omega (arith, back, less))
  ]

  nothing_yet : (m : Moment) (from : ℕ) (l : List ℕ) → IsCleared plan from l m → ¬ HasCome [] m
  nothing_yet opening from l c h = c
  nothing_yet (commit g) from l c h = h
  nothing_yet never from l c h = h

  at_start : (p : Package) (b d : Moment) → Enters plan start b p → HasCome [] b → Has start p
  at_start p opening d e h = e
  at_start p (commit g) d e h = absurd h
  at_start p never d e h = absurd h

  pub there_at_first : AreThere plan start [] start
  there_at_first = record {
    closed = λ g h d. absurd d;
    alive = λ p has. let k = some_life plan start p opening has in
        (record { package_is = p; birth = opening; death = k.0 }, k.1, refl, record { born = tt; stays = nothing_yet k.0 0 (line p) k.1.leaves });
    all = λ x is a. at_start x.package_is x.birth x.death is.enters a.born;
    apart = ok.consistent.apart;
  }

  module _ (done : List ℕ) (ps : List Package) (t : AreThere plan start done ps) (g : ℕ)
      (waited : (h : ℕ) → Has (group_at plan g).after h → Has done h) (undone : ¬ Has done g) where
    -- a later group that changes a line of this one isn't done
    later_undone : (h : ℕ) (l : List ℕ) → g < h → Changes plan g l → Changes plan h l → ¬ Has done h
    later_undone h l less cg ch d = undone (reached plan done t.closed h g (earlier_reaches g h l less cg ch) d)

    -- an earlier one is
    earlier_done : (h : ℕ) (l : List ℕ) → h < g → Changes plan h l → Changes plan g l → Has done h
    earlier_done h l less ch cg = elim (reached_before plan done t.closed g waited h (earlier_reaches h g l less ch cg)) [
      | inl e ↦ absurd (omega (arith, e, less))
      | inr d ↦ d
    ]

    adds : (p : Package) → Has (group_at plan g).additions p → Changes plan g (line p)
    adds p h = inr (p, h, refl)

    -- what the group brings isn't taken away by what is done
    brought_stays : (l : List ℕ) (d : Moment) → Changes plan g l → IsCleared plan (g + 1) l d → ¬ HasCome (g ∷ done) d
    brought_stays l opening cg c h = c
    brought_stays l (commit k) cg c (inl e) = let past = c.0 in absurd (omega (arith, e, past))
    brought_stays l (commit k) cg c (inr h) = later_undone k l (let past = c.0 in omega (arith, past)) cg (inl c.1) h
    brought_stays l never cg c h = h

    -- what it leaves alone goes on
    left_stays : (l : List ℕ) (from : ℕ) (d : Moment) → clears (group_at plan g) l ≡ false → IsCleared plan from l d → ¬ HasCome done d → ¬ HasCome (g ∷ done) d
    left_stays l from opening none c s h = c
    left_stays l from (commit k) none c s (inl e) = let t : clears (group_at plan g) l ≡ true = ap (λ (n : ℕ). clears (group_at plan n) l) e ∙ c.1 in absurd (cc (none, t))
    left_stays l from (commit k) none c s (inr h) = s h
    left_stays l from never none c s h = h

    -- what is there afterwards isn't what it takes away
    not_taken : (l : List ℕ) (from : ℕ) (d : Moment) → from ≤ g → IsCleared plan from l d → ¬ HasCome (g ∷ done) d → clears (group_at plan g) l ≡ true → ⊥
    not_taken l from opening le c s e = c
    not_taken l from (commit k) le c s e = elim (cases_eq g k) [
      | inl same ↦ s (inl same)
      | inr other ↦ (let first = c.2 g le e in s (inr (earlier_done k l (omega (arith, first, other)) (inl c.1) (inl e))))
    ]
    not_taken l from never le c s e = c g le e

    less_come : (d : Moment) → HasCome done d → HasCome (g ∷ done) d
    less_come opening h = tt
    less_come (commit k) h = inr h
    less_come never h = h

    -- a package that came before, and is there afterwards
    stays_there : (p : Package) (b d : Moment) → IsLife plan start (record { package_is = p; birth = b; death = d }) → HasCome done b → ¬ HasCome (g ∷ done) d → (clears (group_at plan g) (line p) ≡ true → ⊥) → Has (changed (group_at plan g) ps) p
    stays_there p b d is born s none =
        let x : Life = record { package_is = p; birth = b; death = d } in
        let there = t.all x is (record { born = born; stays = λ h. s (less_come d h) }) in
        has-append_right (group_at plan g).additions (filter (λ (q : Package). not (clears (group_at plan g) (line q))) ps) p
        (has-filter (λ (q : Package). not (clears (group_at plan g) (line q))) ps p there (elim (cases_Bool (clears (group_at plan g) (line p))) [ inl e ↦ absurd (none e) | inr e ↦ ap not e ]))

    there_after : (p : Package) (b d : Moment) → IsLife plan start (record { package_is = p; birth = b; death = d }) → HasCome (g ∷ done) b → ¬ HasCome (g ∷ done) d → Has (changed (group_at plan g) ps) p
    there_after p opening d is born s = stays_there p opening d is tt s (λ e. not_taken (line p) 0 d (omega arith) is.leaves s e)
    there_after p (commit k) d is (inl same) s = has-append_left (group_at plan g).additions _ p (subst (λ (n : ℕ). Has (group_at plan n).additions p) (sym same) is.enters)
    there_after p (commit k) d is (inr h) s = stays_there p (commit k) d is h s (λ e. elim (cases_order k g) [
      | inl same ↦ undone (subst (λ (n : ℕ). Has done n) same h)
      | inr other ↦ elim other [
        | inl less ↦ not_taken (line p) (k + 1) d (omega (arith, less)) is.leaves s e
        | inr more ↦ later_undone k (line p) more (inl e) (inr (p, is.enters, refl)) h
      ]
    ])
    there_after p never d is born s = absurd is.enters

    abbrev new : List Package
    new = changed (group_at plan g) ps

    alive_after : (p : Package) → Has new p → (x : Life) × IsLife plan start x × (x.package_is ≡ p) × IsAlive (g ∷ done) x
    alive_after p has = elim (has-append_cases (group_at plan g).additions (filter (λ (q : Package). not (clears (group_at plan g) (line q))) ps) p has) [
      | inl added ↦ (let k = some_life plan start p (commit g) added in
          (record { package_is = p; birth = commit g; death = k.0 }, k.1, refl, record { born = inl refl; stays = brought_stays (line p) k.0 (adds p added) k.1.leaves }))
      | inr left ↦ (let m = has-filter_back (λ (q : Package). not (clears (group_at plan g) (line q))) ps p left in
          let k = t.alive p m.0 in
          let none : clears (group_at plan g) (line k.0.package_is) ≡ false = ap (λ (q : Package). clears (group_at plan g) (line q)) k.2 ∙ not-true (clears (group_at plan g) (line p)) m.1 in
          (k.0, k.1, k.2, record { born = less_come k.0.birth k.3.born; stays = left_stays (line k.0.package_is) (first_after k.0.birth) k.0.death none k.1.leaves k.3.stays }))
    ]

    born_before : (p : Package) (b : Moment) (l : List ℕ) → Enters plan start b p → HasCome done b → line p ≡ l → Changes plan g l → ComesBefore b g
    born_before p opening l e h same cg = tt
    born_before p (commit k) l e h same cg = elim (cases_order k g) [
      | inl eq ↦ absurd (undone (subst (λ (n : ℕ). Has done n) eq h))
      | inr other ↦ elim other [ inl less ↦ less | inr more ↦ absurd (later_undone k l more cg (inr (p, e, same)) h) ]
    ]
    born_before p never l e h same cg = h

    gone_before : (from : ℕ) (d : Moment) (l : List ℕ) → IsCleared plan from l d → Changes plan g l → ComesBefore d g → HasCome done d
    gone_before from opening l c cg b = tt
    gone_before from (commit k) l c cg b = earlier_done k l b (inl c.1) cg
    gone_before from never l c cg b = b

    -- what it brings and what it leaves aren't on one line
    not_met : (p q : Package) → Has (group_at plan g).additions p → Has (filter (λ (q : Package). not (clears (group_at plan g) (line q))) ps) q → ¬ (line p ≡ line q)
    not_met p q hp hq e =
        let m = has-filter_back (λ (q : Package). not (clears (group_at plan g) (line q))) ps q hq in
        let k = t.alive q m.0 in
        let same : line k.0.package_is ≡ line p = ap line k.2 ∙ sym e in
        let stands : StandsBefore g k.0 = record {
          born = born_before k.0.package_is k.0.birth (line p) k.1.enters k.3.born same (adds p hp);
          alive = λ b. k.3.stays (gone_before (first_after k.0.birth) k.0.death (line k.0.package_is) k.1.leaves (subst (λ (l : List ℕ). Changes plan g l) (sym same) (adds p hp)) b);
        } in
        let cleared = ok.vacant g p k.0 hp k.1 stands same in
        let here : clears (group_at plan g) (line q) ≡ true = ap (λ (l : List ℕ). clears (group_at plan g) l) (sym e) ∙ cleared in
        let passed : not (clears (group_at plan g) (line q)) ≡ true = m.1 in
        absurd (let turned : not true ≡ true = ap not (sym here) ∙ passed in cc turned)

    pub there_next : AreThere plan start (g ∷ done) new
    there_next = record {
      closed = λ k h has w. elim has [ inl e ↦ inr (waited h (subst (λ (n : ℕ). Has (group_at plan n).after h) (sym e) w)) | inr d ↦ inr (t.closed k h d w) ];
      alive = alive_after;
      all = λ x is a. there_after x.package_is x.birth x.death is a.born a.stays;
      apart = distinct_joined line (group_at plan g).additions (filter (λ (q : Package). not (clears (group_at plan g) (line q))) ps) (ok.single g)
          (distinct_filtered line (λ (q : Package). not (clears (group_at plan g) (line q))) ps t.apart) not_met;
    }

  -- the groups that are done behind a run, the last one first
  abbrev pub all_done : List ℕ → List ℕ → List ℕ
  all_done [] done = done
  all_done (g ∷ run) done = all_done run (g ∷ done)

  pub there_behind : (run done : List ℕ) (ps : List Package) → AreThere plan start done ps → GoesOn plan done run → AreThere plan start (all_done run done) (after plan ps run)
  there_behind [] done ps t r = t
  there_behind (g ∷ run) done ps t r = there_behind run (g ∷ done) (changed (group_at plan g) ps) (there_next done ps t g r.2 r.1) r.3
