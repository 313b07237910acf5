-- Accepted plans are sound.
use Rattle.std.proofs.Common.{◌≡◌, ◌⊎◌, ◌<◌, ℕ, length, true, false, List, [], ◌∷◌, inl, inr, refl, sym, ap, subst, ◌∙◌}
use Rattle.std.proofs.lemmas.Bool.{or_left, or_right}
use Rattle.basics.specs.Members.{Has}
use Rattle.basics.proofs.Membership.{has-map}
use Rattle.pms_names.specs.Flags.{has}
use Rattle.dep_atom.specs.declared.package.Facts.{Facts}
use Rattle.dep_atom.specs.Match.{value_matches}
use Rattle.dep_atom.specs.Values.{AtomValue}
use Rattle.dep_tree.specs.Grammar.{is_block}
use Rattle.dep_tree.specs.Truth.{is_fact, some_match}
use Rattle.pkg_state.specs.Consistent.{AreConsistent, blocks, facts_of, fits_required, is_met}
use Rattle.pkg_state.specs.Package.{Package, tree_of}
use Rattle.pkg_state.specs.declared.class.Class.{Class}
use Rattle.pkg_state.specs.declared.class.Class.TheVariants.{Pdepend, Rdepend}
use Rattle.plan_law.specs.Plans.{Group, IsRun, WaitsForEarlier, after, group_at}
use Rattle.plan_law.specs.Lives.{Enters, IsCleared, Moment, Stretch, commit, never, opening, stretch_of, until}
use Rattle.plan_law.specs.Firm.{IsChained}
use Rattle.plan_law.specs.Accepted.{AreLeft, IsAccepted, IsFirmThrough}
use Rattle.plan_law.specs.Sound.{AreVersionsApart, IsSound, bars}
use Rattle.plan_law.proofs.Apart.{differ_too}
use Rattle.plan_law.proofs.Cleared.{adding_is_there, clearing_is_there}
use Rattle.plan_law.proofs.Chains.{chained_alive}
use Rattle.plan_law.proofs.Closed.{HasCome, IsWithin, alive_meets, within_life, within_until}
use Rattle.basics.proofs.Members.{passes_some, some_passes}
use Rattle.plan_law.proofs.There.{AreThere, all_done, line, there_at_first, there_behind}
use Rattle.plan_law.proofs.Truth.{firm_all}

module _ (plan : List Group) (start : List Package) (f : WaitsForEarlier plan) (ok : IsAccepted plan start) where
  -- what is done behind a run is just the run
  pub run_done : (run done : List ℕ) (h : ℕ) → Has (all_done plan start f ok run done) h → Has run h ⊎ Has done h
  run_done [] done h d = inr d
  run_done (g ∷ run) done h d = elim (run_done run (g ∷ done) h d) [
    | inl later ↦ inl (inr later)
    | inr now ↦ elim now [ inl e ↦ inl (inl e) | inr old ↦ inr old ]
  ]

  pub done_stays : (run done : List ℕ) (h : ℕ) → Has done h → Has (all_done plan start f ok run done) h
  done_stays [] done h d = d
  done_stays (g ∷ run) done h d = done_stays run (g ∷ done) h (inr d)

  pub run_is_done : (run done : List ℕ) (h : ℕ) → Has run h → Has (all_done plan start f ok run done) h
  run_is_done [] done h r = absurd r
  run_is_done (g ∷ run) done h (inl e) = done_stays run (g ∷ done) h (inl e)
  run_is_done (g ∷ run) done h (inr r) = run_is_done run (g ∷ done) h r

  in_run : (run : List ℕ) (h : ℕ) → Has (all_done plan start f ok run []) h → Has run h
  in_run run h d = elim (run_done run [] h d) [ inl r ↦ r | inr none ↦ absurd none ]

  module _ (run : List ℕ) (is_run : IsRun plan run) where
    abbrev done : List ℕ
    done = all_done plan start f ok run []

    abbrev ps : List Package
    ps = after plan start run

    there : AreThere plan start done ps
    there = there_behind plan start f ok run [] start (there_at_first plan start f ok) is_run

    -- what is firm through a stretch holds at each moment of it
    holds_within : (s : Stretch) → IsWithin plan done s → (class : Class) (p : Package) → IsFirmThrough plan start s class p → is_met (facts_of ps) class p ≡ true
    holds_within s w class p firm =
        firm_all (tree_of class p).empty_holds (IsChained plan start p.facts.enabled s) (has p.facts.enabled) (is_fact (facts_of ps) p.facts.enabled)
        (λ a b. or_left (is_block a) (some_match (facts_of ps) p.facts.enabled a) b)
        served (tree_of class p).groups firm where
          served : (atoms : List AtomValue) → IsChained plan start p.facts.enabled s atoms → (a : AtomValue) × Has atoms a × (is_fact (facts_of ps) p.facts.enabled a ≡ true)
          served atoms c =
              let k = chained_alive plan start atoms p.facts.enabled s done w c in
              let m = some_passes (λ (a : AtomValue). value_matches a k.0.package_is.facts p.facts.enabled) atoms k.1.wanted in
              let here = there.all k.0 k.1.is k.2 in (
                m.0,
                m.1,
                or_right (is_block m.0) (some_match (facts_of ps) p.facts.enabled m.0)
                    (passes_some (λ (q : Facts). value_matches m.0 q p.facts.enabled) (facts_of ps) k.0.package_is.facts (has-map (λ (q : Package). q.facts) ps k.0.package_is here) m.2),
              )

    fits : (p : Package) (b : Moment) → Enters plan start b p → fits_required p ≡ true
    fits p opening e = ok.consistent.required p e
    fits p (commit g) e = ok.required g p e
    fits p never e = absurd e

    meeting : (p q : Package) → Has ps p → Has ps q → blocks q p ≡ false
    meeting p q hp hq =
        let x = there.alive q hq in
        let y = there.alive p hp in
        let r = ok.unblocked x.0 y.0 x.1 y.1 (alive_meets plan done (stretch_of x.0) (within_life plan done there.closed x.0 x.3) y.0 y.3) in
        subst (λ (z : Package). blocks z p ≡ false) x.2 (subst (λ (z : Package). blocks x.0.package_is z ≡ false) y.2 r)

    running : (p : Package) → Has ps p → is_met (facts_of ps) Rdepend p ≡ true
    running p hp =
        let x = there.alive p hp in
        subst (λ (z : Package). is_met (facts_of ps) Rdepend z ≡ true) x.2
        (holds_within (stretch_of x.0) (within_life plan done there.closed x.0 x.3) Rdepend x.0.package_is (ok.lasting x.0 x.1))

    pub consistent_behind : AreConsistent ps
    consistent_behind = record {
      apart = there.apart;
      required = λ p hp. let x = there.alive p hp in subst (λ (z : Package). fits_required z ≡ true) x.2 (fits x.0.package_is x.0.birth x.1.enters);
      unblocked = meeting;
      runtime = running;
    }

    same_line : (p q : Package) → Has ps p → Has ps q → p.facts.id ≡ q.facts.id → line p ≡ line q
    same_line p q hp hq e =
        let x = there.alive p hp in
        let y = there.alive q hq in
        let met = alive_meets plan done (stretch_of x.0) (within_life plan done there.closed x.0 x.3) y.0 y.3 in
        let ids : x.0.package_is.facts.id ≡ y.0.package_is.facts.id = ap (λ (z : Package). z.facts.id) x.2 ∙ e ∙ sym (ap (λ (z : Package). z.facts.id) y.2) in
        sym (ap line x.2) ∙ ok.versions x.0 y.0 x.1 y.1 met ids ∙ ap line y.2

    pub versions_behind : AreVersionsApart ps
    versions_behind = differ_too line (λ (p : Package). p.facts.id) ps same_line there.apart

    module _ (g : ℕ) (waited : (h : ℕ) → Has (group_at plan g).after h → Has run h) (undone : ¬ Has run g) where
      up_to : IsWithin plan done (until g)
      up_to = within_until plan done there.closed g (λ h w. run_is_done run [] h (waited h w)) (λ d. undone (in_run run g d))

      pub built_behind : (p : Package) (class : Class) → IsFirmThrough plan start (until g) class p → is_met (facts_of ps) class p ≡ true
      built_behind p class firm = holds_within (until g) up_to class p firm

      pub unbarred_behind : (p q : Package) → Has (group_at plan g).additions p → Has ps q → bars p q ≡ false
      unbarred_behind p q hp hq =
          let y = there.alive q hq in
          subst (λ (z : Package). bars p z ≡ false) y.2 (ok.unbarred g p y.0 hp y.1 (alive_meets plan done (until g) up_to y.0 y.3))

    module _ (all : (g : ℕ) → g < length plan → Has run g) where
      lasts : (d : Moment) (from : ℕ) (l : List ℕ) → IsCleared plan from l d → ¬ HasCome done d → d ≡ never
      lasts opening from l c s = absurd c
      lasts (commit k) from l c s = absurd (s (run_is_done run [] k (all k (clearing_is_there plan k l c.1))))
      lasts never from l c s = refl

      born : (p : Package) (b : Moment) → Enters plan start b p → HasCome done b
      born p opening e = tt
      born p (commit g) e = run_is_done run [] g (all g (adding_is_there plan g p e))
      born p never e = e

      left_behind : AreLeft plan start ps
      left_behind p = (
        (λ hp. let x = there.alive p hp in (x.0, x.1, lasts x.0.death _ _ x.1.leaves x.3.stays, x.2)),
        (λ x. subst (λ (z : Package). Has ps z) x.3 (there.all x.0 x.1 (record {
          born = born x.0.package_is x.0.birth x.1.enters;
          stays = λ h. subst (λ (d : Moment). HasCome done d) x.2 h;
        }))),
      )

      pub finished_behind : (g : ℕ) (p : Package) → Has (group_at plan g).additions p → Has ps p → is_met (facts_of ps) Pdepend p ≡ true
      finished_behind g p hp hq = ok.finished g p ps hp left_behind hq

  pub accepted_sound : IsSound plan start
  accepted_sound = record {
    consistent = consistent_behind;
    versions = versions_behind;
    built = λ run g p class u hp of_build. built_behind run u.run_is g u.waited u.undone p class (ok.built g p class hp of_build);
    unbarred = λ run g p q u hp hq. unbarred_behind run u.run_is g u.waited u.undone p q hp hq;
    finished = λ run g p whole hp hq. finished_behind run whole.run_is whole.all g p hp hq;
  }
