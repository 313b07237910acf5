-- The groups of a run of an accepted plan leave a sound tree, and so does a run that merges them.
use Rattle.std.proofs.Common.{◌≡◌, ◌∙◌, ◌↔◌, ◌∷◌, ℕ, zero, suc, true, List, [], Result, ap, inl, inr, map, refl, subst, sym}
use Rattle.basics.specs.Members.{Has}
use Rattle.basics.proofs.Membership.{has-append_left, has-map}
use Rattle.file_tree.specs.Disk.{Map, Story}
use Rattle.file_tree.proofs.Moments.{since_weaker}
use Rattle.merge_journal.specs.Group as journal
use Rattle.merge_journal.specs.Group.{applied}
use Rattle.merge_group.specs.Applied.{AreOf, ReadsWith, RecoversWith, number}
use Rattle.merge_group.specs.Went.{WentWith}
use Rattle.merge_group.specs.declared.stop.Stop.{Stop}
use Rattle.merge_group.specs.declared.turn.Turn.{Turn}
use Rattle.merge_group.proofs.Left.{numbers_of}
use Rattle.merge_site.specs.declared.group.SiteGroup.{SiteGroup}
use Rattle.owner_book.specs.Book.{Book, owner_in}
use Rattle.recovery.specs.Promise.{RecoversTo}
use Rattle.recovery.proofs.Lists.{distinct_if_sorted}
use Rattle.pkg_state.specs.Package.{Package}
use Rattle.plan_law.specs.Lives.{Life, opening}
use Rattle.plan_law.specs.Plans.{Group, group_at}
use Rattle.plan_law.proofs.There.{some_life, there_at_first}
use Rattle.vdb_law.specs.Database.{folder_name}
use Rattle.vdb_law.specs.Packages.{Installed}
use Rattle.vdb_law.specs.Step.{GroupsKeepDatabase, Owns}
use Rattle.law_commit.specs.Commits.{IsSoundTree}
use Rattle.law_commit.specs.Lit.{lit, packages_of}
use Rattle.run_files.specs.Keys.{folder_of}
use Rattle.run_files.specs.Laws.{OwnersKeepTheirKeys}
use Rattle.run_turns.specs.Held.{Holdings}
use Rattle.run_turns.specs.Plans.{coming, is_named}
use Rattle.run_turns.specs.declared.job.Job.{Job}
use Rattle.run_plan.specs.Runs.{AreOfRun, numbers_at}
use Rattle.run_sound.specs.Ends.{AreMadeOver, RunsLeaveSoundTrees}
use Rattle.run_sound.specs.Sound.{AnyImage, HoldsAfterGroups, HoldsAfterRun, IsPlanFor, IsSoundRun, LeavesSound, PlanRunsAreSound, RecoversSoundly, StaysSound}
use Rattle.run_sound.proofs.Alive.{alive_at_first}
use Rattle.run_sound.proofs.Places.{held_at, held_first, turns_numbered}
use Rattle.run_sound.proofs.Turning.{Facts, IsHeld, Stands, run_leaves}

-- a group that names a package is one of the plan
named_group : (plan : List Group) (h : ℕ) (p : Installed) → is_named (group_at plan h) p ≡ true → Has plan (group_at plan h)
named_group [] h p e = absurd (cc e)
named_group (g ∷ plan) zero p e = inl refl
named_group (g ∷ plan) (suc h) p e = inr (named_group plan h p e)

-- no group leaves a sound tree as sound as it was
none_sound : (flags : List (List ℕ)) (m : Map) (ps : List Installed) → GroupsKeepDatabase → IsSoundTree flags m ps → IsSoundTree flags (applied m []) ps
none_sound flags m ps keep sound =
    let both = keep [] m ps ps sound.database sound.kept refl in
    record { database = both.0; kept = both.1; consistent = sound.consistent }

-- ---- what follows of the packages after a run

module _ (flags : List (List ℕ)) (P Q : List Installed → Type 0) (so : (qs : List Installed) → P qs → Q qs) where
  after_weaker : (gs : List Group) (ps : List Installed) → HoldsAfterGroups flags ps gs P → HoldsAfterGroups flags ps gs Q
  after_weaker [] ps h = so ps h
  after_weaker (g ∷ gs) ps (added, comes, (qs, after, h)) = (added, comes, (qs, after, after_weaker gs qs h))

  pub after_run : (ps : List Installed) (plan : List Group) (Such Other : List ℕ → Type 0) → ((run : List ℕ) → Such run → Other run) → HoldsAfterRun flags ps plan Such P → HoldsAfterRun flags ps plan Other Q
  after_run ps plan Such Other too h = record { run = h.run; is_run = h.is_run; such = too h.run h.such; holds = after_weaker (map (group_at plan) h.run) ps h.holds }

module _ (flags : List (List ℕ)) (ps : List Installed) (plan : List Group) (m : Map) (xs : List journal.Group) (left : LeavesSound flags ps plan m xs) where
  abbrev sound : List Installed → Type 0
  sound = IsSoundTree flags (applied m xs)

  abbrev numbered : List ℕ → Type 0
  numbered run = map number xs ≡ numbers_at run

  -- a crash image that recovers to the map with these groups
  pub stays_sound : (among : List ℕ) (c : Map) → ((n : ℕ) → Has among n → Has (map number xs) n) → RecoversTo c (applied m xs) → StaysSound flags ps plan among c
  stays_sound among c has recovers =
      after_run flags sound (RecoversSoundly flags c) (λ qs s. record { tree = applied m xs; recovers = recovers; sound = s }) ps plan numbered (λ run. (n : ℕ) → Has among n → Has (numbers_at run) n)
      (λ run same n h. subst (λ (l : List ℕ). Has l n) same (has n h)) left

  -- .. and a history of just these
  pub with_history : (P : List Installed → Type 0) (history : List ℕ) → map number xs ≡ history → ((qs : List Installed) → IsSoundTree flags (applied m xs) qs → P qs) → HoldsAfterRun flags ps plan (λ run. history ≡ numbers_at run) P
  with_history P history are so = after_run flags sound P so ps plan numbered (λ run. history ≡ numbers_at run) (λ run same. sym are ∙ same) left

module _ {A : Type 0} (flags : List (List ℕ)) (ps : List Installed) (plan : List Group) (old new : Story) (history : List ℕ) (end : Result A Stop) (Run : List journal.Group → Type 0)
    (leave : (xs : List journal.Group) → Run xs → LeavesSound flags ps plan old.now.holds xs) where
  recovers : (among : List ℕ) (c : Map) → RecoversWith Run old.now.holds among c → StaysSound flags ps plan among c
  recovers among c r = stays_sound flags ps plan old.now.holds r.groups (leave r.groups r.of) among c r.has r.is

  reads : ReadsWith Run old.now.holds history new.now → HoldsAfterRun flags ps plan (λ run. history ≡ numbers_at run) (IsSoundTree flags new.now.holds)
  reads r = with_history flags ps plan old.now.holds r.groups (leave r.groups r.of) (IsSoundTree flags new.now.holds) history r.are (λ qs s. subst (λ (t : Map). IsSoundTree flags t qs) (λ i q. sym (r.reads q) i) s)

  run_soundly : WentWith Run old new history end → IsSoundRun flags ps plan old new history end
  run_soundly went = record {
    moments = since_weaker (RecoversWith Run old.now.holds []) (StaysSound flags ps plan []) (λ c r. recovers [] c r) old new went.moments;
    crash = λ c image. recovers history c (went.crash c image);
    tree = λ healthy fed. reads (went.tree healthy fed);
  }

-- ---- before the first group

module _ (facts : Facts) (stay : OwnersKeepTheirKeys) (flags : List (List ℕ)) (m : Map) (ps : List Installed) (plan : List Group) (jobs : List Job) (book : Book) (groups : List SiteGroup) (turns : List Turn)
    (planned : IsPlanFor flags m ps book plan) (made : AreMadeOver AnyImage m ps plan jobs book groups turns) where
  abbrev start : List Package
  start = packages_of flags ps

  abbrev held : ℕ → Holdings
  held = held_at AnyImage ps plan jobs 0 made.held turns made.made

  -- what a package of the opening owns is held
  owned_first : (p : Installed) → Has ps p → (h : ℕ) → is_named (group_at plan h) p ≡ true → (q : List ℕ) → Has (held 0 (folder_name p)) q ↔ Owns m p q
  owned_first p has h named q =
      subst (λ (k : Holdings). Has (k (folder_name p)) q ↔ Owns m p q) (sym (held_first AnyImage ps plan jobs 0 made.held turns made.made))
      (made.owned (distinct_if_sorted (map folder_name ps) planned.sound.database.rising) p (group_at plan h) has (named_group plan h p named) named q)

  there_first : (p : Installed) → Has ps p → IsHeld flags start plan held [] m p
  there_first p has =
      let k = some_life plan start (lit flags p.package_is) opening (has-map (λ (x : Installed). lit flags x.package_is) ps p has) in
      let x : Life = record { package_is = lit flags p.package_is; birth = opening; death = k.0 } in
      record { birth = opening; death = k.0; life = k.1; alive = alive_at_first plan start x k.1 refl; holds = λ h named q. owned_first p has h named q }

  begins : Stands flags ps plan held [] start m ps book
  begins = record {
    there = there_at_first plan start planned.earlier planned.accepted;
    same = λ p. ((λ h. h), (λ h. h));
    tree = record {
      database = planned.sound.database;
      kept = planned.sound.kept;
      owners = stay m ps (coming plan) (owner_in book.owned) planned.owners.owners;
    };
    inside = λ p has. has-append_left (map folder_name ps) (map folder_of (coming plan)) (folder_name p) (has-map folder_name ps p has);
    each = there_first;
  }

  leave_sound : (xs : List journal.Group) → AreOfRun m book groups plan turns xs → LeavesSound flags ps plan m xs
  leave_sound xs are = record {
    run = are.run;
    is_run = are.is_run;
    such = ap (map number) are.are ∙ (numbers_of are.own ∙ turns_numbered AnyImage ps plan jobs made.held turns made.made are.run are.own are.turns_are);
    holds = subst (λ (l : List journal.Group). HoldsAfterGroups flags ps (map (group_at plan) are.run) (IsSoundTree flags (applied m l))) (sym are.are)
        (run_leaves facts flags ps plan planned.earlier planned.accepted planned.recordable AnyImage jobs groups made.opened_for made.held turns made.made are.run are.own [] start m ps book begins are.is_run are.turns_are are.let_in
        ((facts.sound plan start planned.earlier planned.accepted).consistent are.run are.is_run));
  }

pub runs_sound : Facts → OwnersKeepTheirKeys → RunsLeaveSoundTrees
runs_sound facts stay flags m ps plan jobs book groups turns xs planned made are = leave_sound facts stay flags m ps plan jobs book groups turns planned made xs are

-- nothing came in
none_leaves : (keep : GroupsKeepDatabase) (flags : List (List ℕ)) (m : Map) (ps : List Installed) (plan : List Group) → IsSoundTree flags m ps → (xs : List journal.Group) → AreOf (λ x. ⊥) xs → LeavesSound flags ps plan m xs
none_leaves keep flags m ps plan sound [] of = record { run = []; is_run = tt; such = refl; holds = none_sound flags m ps keep sound }
none_leaves keep flags m ps plan sound (y ∷ ys) of = absurd (of y (inl refl))

pub plan_runs_sound : GroupsKeepDatabase → RunsLeaveSoundTrees → PlanRunsAreSound
plan_runs_sound keep law flags book ps plan jobs old new history end planned (inl went) =
    run_soundly flags ps plan old new history end (AreOf (λ x. ⊥)) (none_leaves keep flags old.now.holds ps plan planned.sound) went.0
plan_runs_sound keep law flags book ps plan jobs old new history end planned (inr w) =
    let made : AreMadeOver AnyImage old.now.holds ps plan jobs book w.groups w.turns = record { owners = planned.owners; opened_for = w.opened_for; held = w.held; owned = w.owned; made = w.made } in
    run_soundly flags ps plan old new history end (AreOfRun old.now.holds book w.groups plan w.turns) (λ xs. law flags old.now.holds ps plan jobs book w.groups w.turns xs planned made) w.went
