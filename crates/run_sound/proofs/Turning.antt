-- The groups of a run of an accepted plan, in whatever order it has them, over a sound tree.
use Rattle.std.proofs.Common.{◌≡◌, ◌∙◌, ◌↔◌, ◌<◌, ◌≤◌, ◌+◌, ℕ, suc, true, List, [], ◌∷◌, Some, ap, arith, inl, inr, length, map, refl, slice_get, subst, sym}
use Rattle.std.specs.List.{AllByRecursion}
use Rattle.basics.specs.Members.{Has}
use Rattle.basics.proofs.Each.{all_has}
use Rattle.basics.proofs.Membership.{has-map, has-map_back}
use Rattle.build_pool.specs.declared.orders.Order.{Order}
use Rattle.dep_atom.specs.Ids.{IsId}
use Rattle.dep_atom.proofs.Joined.{ComesApart}
use Rattle.file_tree.specs.Disk.{Map}
use Rattle.file_tree.specs.declared.objects.Entry.{Entry}
use Rattle.merge_journal.specs.Group.{applied}
use Rattle.merge_record.specs.declared.record.OwnerKey.{OwnerKey}
use Rattle.merge_site.specs.Booking.{dying_at}
use Rattle.merge_site.specs.declared.group.SiteGroup.{SiteGroup}
use Rattle.owner_book.specs.Book.{Book, owner_in}
use Rattle.owner_book.specs.Rules.{is_dying}
use Rattle.vdb_paths.proofs.Packages.{OneSpelling}
use Rattle.plan_law.specs.Accepted.{IsAccepted}
use Rattle.pkg_state.specs.Consistent.{AreConsistent}
use Rattle.pkg_state.specs.Package.{Package}
use Rattle.plan_law.specs.Lives.{IsLife, Life, Moment, commit, first_after}
use Rattle.plan_law.specs.Plans.{GoesOn, Group, WaitsForEarlier, after, group_at}
use Rattle.plan_law.proofs.Closed.{IsAlive}
use Rattle.plan_law.proofs.There.{AreThere, some_life, there_behind}
use Rattle.vdb_law.specs.Database.{folder_name}
use Rattle.vdb_law.specs.Packages.{Installed, id_of}
use Rattle.vdb_law.specs.Step.{GroupsKeepDatabase, Owns, Stays}
use Rattle.vdb_law.proofs.Law.{applied_behind}
use Rattle.law_commit.specs.Commits.{IsSoundTree}
use Rattle.law_commit.specs.Lit.{lit, packages_of}
use Rattle.law_commit.proofs.Whole.{one_change}
use Rattle.law_commit.proofs.Members.{AreSame, consistent_alike}
use Rattle.law_claim.specs.Owners.{Tells}
use Rattle.law_claim.specs.Settled.{owner_after}
use Rattle.law_claim.proofs.Settled.{owners_by}
use Rattle.merge_group.specs.Granted.{MayChange, wishes_of}
use Rattle.merge_group.specs.Turns.{AreLetIn, changes_of, group_for, settled}
use Rattle.merge_group.specs.declared.files.Files.{Files}
use Rattle.merge_group.specs.declared.turn.Turn.{Turn}
use Rattle.merge_group.proofs.Left.{settled_has}
use Rattle.law_change.specs.Changes.{Exchange, GrantedExchangesAreTold, GrantedExchangesLeaveOwnedTrees, IsOwnedTree, LeavesOwnedTree, change_by}
use Rattle.law_change.proofs.Pieces.{right}
use Rattle.vdb_files.specs.Recorded.{FilesAreInTheFolder, SortedRecordsAreReadBack}
use Rattle.run_files.specs.Keys.{folder_of, folders_with, key_with}
use Rattle.run_files.specs.Laws.{CanBeRecorded}
use Rattle.run_files.specs.Made.{IsNamed, leaves, package_of}
use Rattle.run_files.specs.declared.newcomer.Newcomer.{Newcomer}
use Rattle.run_files.proofs.PlaceLemmas.{one_at_a_place}
use Rattle.run_turns.specs.Held.{Holdings}
use Rattle.run_turns.specs.Plans.{AreSiteGroups, coming, is_named}
use Rattle.run_turns.specs.Turns.{AreTurns}
use Rattle.run_turns.specs.declared.job.Job.{Job}
use Rattle.run_sound.specs.Sound.{HoldsAfterGroups}
use Rattle.run_plan.specs.Runs.{AreTurnsAt}
use Rattle.run_sound.proofs.Alive.{AcceptedAreSound, alive_behind, alive_stands, brought_alive, from_before, later_too, not_brought}
use Rattle.run_sound.proofs.Exchanged.{Exchanged, exchanged, named_goes}
use Rattle.run_sound.proofs.Holding.{coming_owns, staying_owns}
use Rattle.run_sound.proofs.Places.{TurnAt, held_at, held_on, turn_at}
use Rattle.run_sound.proofs.Placed.{held_added, own_files, pair_of}
use Rattle.run_sound.proofs.Present.{one_of_text}

-- the laws below that the turns stand on
pub record Facts : Type 0 where
  pub read : SortedRecordsAreReadBack
  pub own : FilesAreInTheFolder
  pub comes : ComesApart
  pub spells : OneSpelling
  pub sound : AcceptedAreSound
  pub told : GrantedExchangesAreTold
  pub leave : GrantedExchangesLeaveOwnedTrees
  pub keep : GroupsKeepDatabase

-- what is held from the turn on that brings a package, or from before the first one, is what it owns,
-- where a group names it; and it is there
pub record IsHeld (flags : List (List ℕ)) (start : List Package) (plan : List Group) (held : ℕ → Holdings) (done : List ℕ) (m : Map) (p : Installed) : Type 0 where
  pub birth : Moment
  pub death : Moment
  pub life : IsLife plan start (record { package_is = lit flags p.package_is; birth = birth; death = death })
  pub alive : IsAlive done (record { package_is = lit flags p.package_is; birth = birth; death = death })
  pub holds : (h : ℕ) → is_named (group_at plan h) p ≡ true → (q : List ℕ) → Has (held (first_after birth) (folder_name p)) q ↔ Owns m p q

-- behind some groups of a run: the packages are those that the plan leaves there, and the owners by
-- their keys beside all that come with it
pub record Stands (flags : List (List ℕ)) (start : List Installed) (plan : List Group) (held : ℕ → Holdings) (done : List ℕ) (now : List Package) (m : Map) (ps : List Installed) (b : Book) : Type 0 where
  pub there : AreThere plan (packages_of flags start) done now
  pub same : AreSame now (packages_of flags ps)
  pub tree : IsOwnedTree (key_with start (coming plan)) m ps (owner_in b.owned)
  pub inside : (p : Installed) → Has ps p → Has (folders_with start (coming plan)) (folder_name p)
  pub each : (p : Installed) → Has ps p → IsHeld flags (packages_of flags start) plan held done m p

module _ (facts : Facts) (flags : List (List ℕ)) (start : List Installed) (plan : List Group) (earlier : WaitsForEarlier plan) (ok : IsAccepted plan (packages_of flags start))
    (can : AllByRecursion (CanBeRecorded flags) (coming plan)) (Image : Order → List Entry → Type 0) (jobs : List Job) (groups : List SiteGroup) (sites : AreSiteGroups start plan jobs groups)
    (first : Holdings) (turns : List Turn) (made : AreTurns Image start plan jobs 0 first turns) where
  abbrev key : Installed → OwnerKey
  key = key_with start (coming plan)

  abbrev folders : List (List ℕ)
  folders = folders_with start (coming plan)

  abbrev held : ℕ → Holdings
  held = held_at Image start plan jobs 0 first turns made

  abbrev opened : List Package
  opened = packages_of flags start

  abbrev At : List ℕ → List Package → Map → List Installed → Book → Type 0
  At done now m ps b = Stands flags start plan held done now m ps b

  module _ (done : List ℕ) (now : List Package) (m : Map) (ps : List Installed) (b : Book) (stand : At done now m ps b) (g : ℕ) (less : g < length plan) (waited : (h : ℕ) → Has (group_at plan g).after h → Has done h) (undone : ¬ Has done g) where
    -- no turn between brings the folder of a package that is there and leaves with the group
    beside : (p : Installed) → Has ps p → (l : IsHeld flags opened plan held done m p) → leaves (group_at plan g) p ≡ true → (k : ℕ) → first_after l.birth ≤ k → k < g
        → (ns : List Newcomer) → AllByRecursion IsNamed ns → map package_of ns ≡ (group_at plan k).additions → ¬ Has (map folder_of (map package_of ns)) (folder_name p)
    beside p has l goes k low high ns named brings there =
        let x : Life = record { package_is = lit flags p.package_is; birth = l.birth; death = l.death } in
        let before = alive_stands plan opened earlier ok done stand.there.closed g waited undone x l.life l.alive goes in
        let a = has-map_back folder_of (map package_of ns) (folder_name p) there in
        let n = has-map_back package_of ns a.0 a.1 in
        let is_id : IsId a.0.facts.id = subst (λ (y : Package). IsId y.facts.id) n.2 (all_has IsNamed ns n.0 named n.1).id in
        let same = one_of_text facts.comes facts.spells a.0.facts.id (id_of p) is_id (stand.tree.database.ids p has) a.2 in
        not_brought plan opened earlier ok facts.sound x l.life k (omega (arith, less, high)) low (λ c. before.alive (later_too l.death k g c high)) a.0
        (subst (λ (ys : List Package). Has ys a.0) brings a.1) same

    -- what is held before its turn for a package that it names is what that owns
    holds_here : (p : Installed) → Has ps p → is_named (group_at plan g) p ≡ true → (q : List ℕ) → Has (held g (folder_name p)) q ↔ Owns m p q
    holds_here p has named q =
        let l = stand.each p has in
        let goes = named_goes flags start plan earlier ok done now stand.there g less waited undone m ps stand.tree.database stand.same stand.inside p has named in
        let x : Life = record { package_is = lit flags p.package_is; birth = l.birth; death = l.death } in
        let before = alive_stands plan opened earlier ok done stand.there.closed g waited undone x l.life l.alive goes in
        let on = held_on Image start plan jobs first turns made (first_after l.birth) g (folder_name p) (from_before l.birth g before.born) (beside p has l goes) in
        subst (λ (l : List (List ℕ)). Has l q ↔ Owns m p q) (sym on) (l.holds g named q)

    module _ (t : Turn) (is_turn : slice_get turns g ≡ Some t) (may : MayChange m b groups (changes_of t) t.group) where
      turn : TurnAt Image start plan jobs g (held g) (held (suc g)) t
      turn = turn_at Image start plan jobs 0 first turns made g g t (omega arith) is_turn

      abbrev newcomers : List Newcomer
      newcomers = turn.newcomers

      e : Exchanged flags start plan g m ps (is_dying (dying_at groups t.group)) newcomers t
      e = exchanged flags start plan earlier ok done now stand.there g less waited undone m ps stand.tree.database stand.same stand.inside
          (held g) holds_here facts.read facts.own facts.sound facts.comes facts.spells can jobs groups sites b newcomers t turn.number turn.brings.brings turn.of may

      abbrev x : Exchange
      x = record { gone = leaves (group_at plan g); added = e.brings.added; packages = t.packages.items; removals = t.removals.items }

      left : LeavesOwnedTree key m ps (owner_in b.owned) (change_by t.group x) (wishes_of t.packages.items)
      left = facts.leave key m ps b groups t.group x stand.tree e.is may

      tells : Tells key m ps (change_by t.group x) (is_dying (dying_at groups t.group)) (wishes_of t.packages.items)
      tells = facts.told key m ps b groups t.group x e.is may

      abbrev new : Map
      new = applied m (group_for t ∷ [])

      abbrev next_book : Book
      next_book = settled (changes_of t) b

      owned_behind : IsOwnedTree key new left.packages (owner_in next_book.owned)
      owned_behind = record {
        database = left.tree.database;
        kept = left.tree.kept;
        owners = owners_by key new left.packages (owner_after (change_by t.group x) (wishes_of t.packages.items) (owner_in b.owned)) (owner_in next_book.owned) (λ q. settled_has b (changes_of t) q) left.tree.owners;
      }

      inside_behind : (p : Installed) → Has left.packages p → Has folders (folder_name p)
      inside_behind p has = elim ((left.after.members p).0 has) [
        | inl stays ↦ stand.inside p stays.0
        | inr added ↦ e.inside p added
      ]

      one_folder : (p r : Installed) → Has folders (folder_name p) → Has folders (folder_name r) → key p ≡ key r → folder_name p ≡ folder_name r
      one_folder p r hp hr same = one_at_a_place (folder_name p) (folder_name r) folders hp hr (ap (λ (k : OwnerKey). k.number) same)

      -- a package that stays
      held_staying : (p : Installed) → Stays ps x.gone p → IsHeld flags opened plan held (g ∷ done) new p
      held_staying p stays =
          let l = stand.each p stays.0 in
          let y : Life = record { package_is = lit flags p.package_is; birth = l.birth; death = l.death } in
          record {
            birth = l.birth;
            death = l.death;
            life = l.life;
            alive = alive_behind plan opened earlier ok done stand.there.closed g waited undone y l.life l.alive stays.1;
            holds = λ h named q.
                let before = l.holds h named q in
                let owns = staying_owns facts.comes facts.spells key m ps (owner_in b.owned) (is_dying (dying_at groups t.group)) t.group x stand.tree e.is tells left p q stays in
                ((λ there. owns.0 (before.0 there)), (λ own. before.1 (owns.1 own)));
          }

      -- what is held behind the turn for one that comes is what it owns
      owned_coming : (p : Installed) → Has e.brings.added p → (q : List ℕ) → Has (held (g + 1) (folder_name p)) q ↔ Owns new p q
      owned_coming p added q =
          let z = pair_of flags start (coming plan) newcomers t.packages.items e.brings p added in
          let there : Has t.packages.items z.0.1 = subst (λ (l : List Files). Has l z.0.1) e.brings.rights (has-map right e.brings.pairs z.0 z.1) in
          let one : g + 1 ≡ suc g = omega arith in
          let same = ap (λ (n : ℕ). held n (folder_name p)) one ∙ (ap (λ (h : Holdings). h (folder_name p)) turn.behind ∙ held_added flags start (coming plan) newcomers t.packages.items e.brings e.apart (held g) z.0 p z.1 z.2) in
          let owns = coming_owns facts.comes facts.spells key m ps (owner_in b.owned) (is_dying (dying_at groups t.group)) t.group x stand.tree e.is tells left p added z.0.1 there z.2.1
          (λ f hf owner. own_files flags start (coming plan) newcomers t.packages.items e.brings e.apart (λ r s hr hs. one_folder r s (e.inside r hr) (e.inside s hs)) z.0 p f added z.1 z.2 hf owner)
          (λ r hr. one_folder r p (stand.inside r hr) (e.inside p added)) q in
          subst (λ (l : List (List ℕ)). Has l q ↔ Owns new p q) (sym same) owns

      held_coming : (p : Installed) → Has e.brings.added p → IsHeld flags opened plan held (g ∷ done) new p
      held_coming p added =
          let enters : Has (group_at plan g).additions (lit flags p.package_is) = subst (λ (l : List Package). Has l (lit flags p.package_is)) e.comes (has-map (λ (y : Installed). lit flags y.package_is) e.brings.added p added) in
          let k = some_life plan opened (lit flags p.package_is) (commit g) enters in
          record {
            birth = commit g;
            death = k.0;
            life = k.1;
            alive = brought_alive plan opened earlier ok done stand.there.closed g waited undone (lit flags p.package_is) k.0 k.1;
            holds = λ h named q. owned_coming p added q;
          }

      each_behind : (p : Installed) → Has left.packages p → IsHeld flags opened plan held (g ∷ done) new p
      each_behind p has = elim ((left.after.members p).0 has) [ inl stays ↦ held_staying p stays | inr added ↦ held_coming p added ]

      stands_behind : At (g ∷ done) (after plan now (g ∷ [])) new left.packages next_book
      stands_behind = record {
        there = there_behind plan opened earlier ok (g ∷ []) done now stand.there (less, undone, waited, tt);
        same = one_change flags (group_at plan g) (change_by t.group x) ps left.packages now (record { leaves = λ p. refl; comes = e.comes }) left.after stand.same;
        tree = owned_behind;
        inside = inside_behind;
        each = each_behind;
      }

  -- the tree behind such groups is sound
  sound_here : (done : List ℕ) (now : List Package) (m : Map) (ps : List Installed) (b : Book) → At done now m ps b → AreConsistent now → IsSoundTree flags (applied m []) ps
  sound_here done now m ps b stand consistent =
      let both = facts.keep [] m ps ps stand.tree.database stand.tree.kept refl in
      record {
        database = both.0;
        kept = both.1;
        consistent = consistent_alike flags ps now stand.tree.database.rising stand.same consistent;
      }

  -- a run whose claims are granted leaves a sound tree
  pub run_leaves : (run : List ℕ) (own : List Turn) (done : List ℕ) (now : List Package) (m : Map) (ps : List Installed) (b : Book)
      → Stands flags start plan (held_at Image start plan jobs 0 first turns made) done now m ps b → GoesOn plan done run → AreTurnsAt turns run own → AreLetIn m b groups own → AreConsistent (after plan now run)
      → HoldsAfterGroups flags ps (map (group_at plan) run) (IsSoundTree flags (applied m (map group_for own)))
  run_leaves [] [] done now m ps b stand goes are let_in consistent = sound_here done now m ps b stand consistent
  run_leaves [] (t ∷ own) done now m ps b stand goes are let_in consistent = absurd are
  run_leaves (g ∷ run) [] done now m ps b stand goes are let_in consistent = absurd are
  run_leaves (g ∷ run) (t ∷ own) done now m ps b stand (less, undone, waited, goes) (is_turn, are) (may, more) consistent =
      let change = e done now m ps b stand g less waited undone t is_turn may in
      let behind = left done now m ps b stand g less waited undone t is_turn may in
      let next = stands_behind done now m ps b stand g less waited undone t is_turn may in
      let rest = run_leaves run own (g ∷ done) (after plan now (g ∷ [])) (applied m (group_for t ∷ [])) behind.packages (settled (changes_of t) b) next goes are more consistent in
      let whole = subst (λ (n : Map). HoldsAfterGroups flags behind.packages (map (group_at plan) run) (IsSoundTree flags n)) (λ i q. applied_behind m (group_for t) (map group_for own) q i) rest in
      (change.brings.added, change.comes, (behind.packages, behind.after, whole))
