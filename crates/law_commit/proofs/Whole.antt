-- The committed groups of an accepted plan leave a sound tree.
use Rattle.std.proofs.Common.{◌≡◌, ℕ, Bool, false, not, List, [], ◌∷◌, filter, map, inl, inr, sym, ap, subst, ◌∙◌}
use Rattle.basics.specs.Members.{Has}
use Rattle.basics.proofs.Membership.{has-append_cases, has-append_left, has-append_right, has-filter, has-filter_back, has-map, has-map_back}
use Rattle.file_tree.specs.Disk.{Map}
use Rattle.merge_journal.specs.Group.{applied}
use Rattle.pkg_state.specs.Package.{Package, line_of}
use Rattle.vdb_law.specs.Packages.{Installed}
use Rattle.vdb_law.specs.Step.{AreSteps, Change, GroupsKeepDatabase, IsAfter}
use Rattle.plan_law.specs.Accepted.{IsAccepted}
use Rattle.plan_law.specs.Plans.{Group, GoesOn, WaitsForEarlier, after, changed, clears, group_at}
use Rattle.plan_law.specs.Sound.{IsSound}
use Rattle.law_commit.specs.Commits.{AreOf, CommitsLeaveSoundTrees, IsOf}
use Rattle.law_commit.specs.Lit.{lit, packages_of}
use Rattle.law_commit.proofs.Members.{AreSame, consistent_alike}
use Rattle.std.proofs.lemmas.Bool.{not_from_false, not-true}

abbrev stays_on : Group → Package → Bool
stays_on g p = not (clears g (line_of p.facts))

-- a change leaves the packages that its group does
pub one_change : (flags : List (List ℕ)) (g : Group) (c : Change) (ps mid : List Installed) (s : List Package) → IsOf flags g c → IsAfter ps c.gone c.added mid → AreSame s (packages_of flags ps) → AreSame (changed g s) (packages_of flags mid)
one_change flags g c ps mid s of step same p = (forth, back) where
  came : (x : Installed) → Has c.added x → Has (packages_of flags mid) (lit flags x.package_is)
  came x h = has-map (λ (y : Installed). lit flags y.package_is) mid x ((step.members x).1 (inr h))

  forth : Has (changed g s) p → Has (packages_of flags mid) p
  forth h = elim (has-append_cases g.additions (filter (stays_on g) s) p h) [
    | inl added ↦ (let k = has-map_back (λ (y : Installed). lit flags y.package_is) c.added p (subst (λ (l : List Package). Has l p) (sym of.comes) added) in
        subst (λ (x : Package). Has (packages_of flags mid) x) k.2 (came k.0 k.1))
    | inr left ↦ (let m = has-filter_back (stays_on g) s p left in
        let k = has-map_back (λ (y : Installed). lit flags y.package_is) ps p ((same p).0 m.0) in
        let stays : c.gone k.0 ≡ false = of.leaves k.0 ∙ ap (λ (x : Package). clears g (line_of x.facts)) k.2 ∙ not-true (clears g (line_of p.facts)) m.1 in
        subst (λ (x : Package). Has (packages_of flags mid) x) k.2 (has-map (λ (y : Installed). lit flags y.package_is) mid k.0 ((step.members k.0).1 (inl (k.1, stays)))))
  ]

  back : Has (packages_of flags mid) p → Has (changed g s) p
  back h =
      let k = has-map_back (λ (y : Installed). lit flags y.package_is) mid p h in
      elim ((step.members k.0).0 k.1) [
        | inl stays ↦ (let there = (same p).1 (subst (λ (x : Package). Has (packages_of flags ps) x) k.2 (has-map (λ (y : Installed). lit flags y.package_is) ps k.0 stays.0)) in
            let goes_on : clears g (line_of p.facts) ≡ false = ap (λ (x : Package). clears g (line_of x.facts)) (sym k.2) ∙ sym (of.leaves k.0) ∙ stays.1 in
            has-append_right g.additions (filter (stays_on g) s) p (has-filter (stays_on g) s p there (not_from_false (clears g (line_of p.facts)) goes_on)))
        | inr added ↦ has-append_left g.additions (filter (stays_on g) s) p
            (subst (λ (l : List Package). Has l p) of.comes (subst (λ (x : Package). Has (packages_of flags c.added) x) k.2 (has-map (λ (y : Installed). lit flags y.package_is) c.added k.0 added)))
      ]

module _ (flags : List (List ℕ)) (plan : List Group) (change : ℕ → Change) (of : AreOf flags plan change) where
  -- so do the changes of a run
  all_changes : (run done : List ℕ) (m : Map) (ps qs : List Installed) (s : List Package) → GoesOn plan done run → AreSteps (map change run) m ps qs → AreSame s (packages_of flags ps) → AreSame (after plan s run) (packages_of flags qs)
  all_changes [] done m ps qs s goes steps same = subst (λ (xs : List Installed). AreSame s (packages_of flags xs)) (sym steps) same
  all_changes (g ∷ run) done m ps qs s goes steps same =
      all_changes run (g ∷ done) (applied m ((change g).does ∷ [])) steps.1.0 qs (changed (group_at plan g) s) goes.3 steps.1.2
      (one_change flags (group_at plan g) (change g) ps steps.1.0 s (of g goes.0) steps.1.1 same)

pub commits_leave_sound_trees : GroupsKeepDatabase
    → ((plan : List Group) (start : List Package) → WaitsForEarlier plan → IsAccepted plan start → IsSound plan start)
    → CommitsLeaveSoundTrees
commits_leave_sound_trees keep sound flags plan change m ps qs run earlier ok of db kept goes steps =
    let both = keep (map change run) m ps qs db kept steps in
    let same = all_changes flags plan change of run [] m ps qs (packages_of flags ps) goes steps (λ p. (λ h. h, λ h. h)) in
    let consistent = (sound plan (packages_of flags ps) earlier ok).consistent run goes in
    record {
      database = both.0;
      kept = both.1;
      consistent = consistent_alike flags qs (after plan (packages_of flags ps) run) both.0.rising same consistent;
    }
