-- From a disk whose tree is sound a run that merges the groups of a plan leaves such a disk.
use Rattle.std.proofs.Common.{◌≡◌, ◌∙◌, ℕ, List, [], Option, None, Some, inl, inr, map, ap, subst, sym}
use Rattle.basics.specs.Members.{Has}
use Rattle.file_tree.specs.Disk.{Disk, IsUntouched, Map}
use Rattle.merge_journal.specs.Group as journal
use Rattle.merge_journal.specs.Group.{applied}
use Rattle.merge_journal.specs.Recovered.{IsRecovered}
use Rattle.recovery.specs.Promise.{RecoversTo}
use Rattle.merge_journal.proofs.Recovery.{recovered_once}
use Rattle.plan_law.specs.Accepted.{IsAccepted}
use Rattle.plan_law.specs.Plans.{Group}
use Rattle.vdb_law.specs.Packages.{Installed}
use Rattle.law_commit.specs.Commits.{IsSoundTree}
use Rattle.law_commit.specs.Lit.{packages_of}
use Rattle.merge_group.specs.Applied.{ReadsWith, RecoversWith, number}
use Rattle.merge_group.proofs.Granted.{none_there}
use Rattle.law_run.specs.Ends.{BeginsWith, IsImageOrAlike}
use Rattle.law_run.proofs.Runs.{applied_empty, applied_none, rest_recovers}
use Rattle.run_turns.specs.declared.job.Job.{Job}
use Rattle.run_plan.specs.Runs.{numbers_at}
use Rattle.run_sound.specs.Ends.{AreMade, AreMadeOver, Choice, ChoosesPlans, Course, EndsSoundly, HasGroups, Images, IsReached, IsRecoveredDisk, Making, RunsLeaveSoundTrees, plan_of}
use Rattle.run_sound.specs.Sound.{AnyImage, HoldsAfterRun, IsPlanFor, LeavesSound, RecoversSoundly, StaysSound}
use Rattle.run_sound.proofs.Images.{any_turns}
use Rattle.run_sound.proofs.Soundly.{stays_sound, with_history}

module _ (law : RunsLeaveSoundTrees) (flags : List (List ℕ)) (Chooses : Choice) (Image : Images) (d : Disk) (m : Map) (ps : List Installed) (Wants : List Group → Type 0)
    (fit : ChoosesPlans flags Chooses m ps Wants) (begins : BeginsWith flags d m ps) where
  -- there is one map that the disk recovers to
  one_map : (n : Map) → IsRecovered d.holds n → n ≡ m
  one_map n is = λ i q. recovered_once d.holds n m is begins.recovers.0 q i

  -- a crash of the disk as it was
  kept : (c : Map) → IsImageOrAlike d c → RecoversSoundly flags c ps
  kept c (inl image) = record {
    tree = m;
    recovers = subst (λ (x : Map). RecoversTo x m) (λ i q. sym (image q (begins.settled q)) i) begins.recovers;
    sound = begins.sound;
  }
  kept c (inr (n, is, also)) = record { tree = m; recovers = subst (λ (x : Map). RecoversTo c x) (one_map n is.0) also; sound = begins.sound }

  -- a run of no group
  nothing : (plan : List Group) (P : List Installed → Type 0) (Such : List ℕ → Type 0) → Such [] → P ps → HoldsAfterRun flags ps plan Such P
  nothing plan P Such such holds = record { run = []; is_run = tt; such = such; holds = holds }

  as_before : (plan : List Group) (history : List ℕ) (c : Map) → history ≡ [] → IsImageOrAlike d c → StaysSound flags ps plan history c
  as_before plan history c none is =
      nothing plan (RecoversSoundly flags c) (λ run. (n : ℕ) → Has history n → Has (numbers_at run) n) (λ n h. subst (λ (l : List ℕ). Has l n) none h) (kept c is)

  -- a disk at rest that reads as a sound tree
  rests : (new : Disk) (t : Map) (qs : List Installed) → IsUntouched new → ((q : List ℕ) → new.holds q ≡ t q) → RecoversTo new.holds new.holds → IsSoundTree flags t qs → BeginsWith flags new new.holds qs
  rests new t qs untouched reads recovers sound = record {
    settled = untouched;
    recovers = recovers;
    sound = subst (λ (x : Map). IsSoundTree flags x qs) (λ i q. sym (reads q) i) sound;
  }

  -- the map with nothing merged into it
  unmerged : applied m [] ≡ m
  unmerged = λ i q. applied_none m begins.recovers.0.cleared q i

  begins_again : (new : Disk) (xs : List journal.Group) (qs : List Installed) → IsUntouched new → ((q : List ℕ) → new.holds q ≡ applied m xs q) → IsSoundTree flags (applied m xs) qs → BeginsWith flags new new.holds qs
  begins_again new xs qs untouched reads sound = rests new (applied m xs) qs untouched reads (rest_recovers new.holds (λ q e. reads q ∙ applied_empty m xs q e)) sound

  -- ---- what is merged

  module _ (qs : List Installed) (plan : List Group) (jobs : List Job) (chosen : Chooses m qs plan jobs) where
    -- it is merged over these packages, which are sound, whatever the images
    leave : (k : Making Image qs plan jobs m) (xs : List journal.Group) → AreMade (Some k) xs → LeavesSound flags ps plan m xs
    leave k xs are =
        let f = fit qs plan jobs chosen in
        let planned : IsPlanFor flags m qs k.book plan = record {
          sound = subst (λ (rs : List Installed). IsSoundTree flags m rs) (sym f.0) begins.sound;
          owners = k.is.owners;
          earlier = f.2.earlier;
          accepted = subst (λ (rs : List Installed). IsAccepted plan (packages_of flags rs)) (sym f.0) f.2.accepted;
          recordable = f.2.recordable;
        } in
        let made : AreMadeOver AnyImage m qs plan jobs k.book k.groups k.turns = record {
          owners = k.is.owners;
          opened_for = k.is.opened_for;
          held = k.is.held;
          owned = k.is.owned;
          made = any_turns Image qs plan jobs 0 k.is.held k.turns k.is.made;
        } in
        subst (λ (rs : List Installed). LeavesSound flags rs plan m xs) f.0 (law flags m qs plan jobs k.book k.groups k.turns xs planned made are)

    reached : (history : List ℕ) (c : Map) (k : Option (Making Image qs plan jobs m)) → RecoversWith (AreMade k) m history c → StaysSound flags ps plan history c
    reached history c (Some k) r = stays_sound flags ps plan m r.groups (leave k r.groups r.of) history c r.has r.is
    reached history c None r =
        let none = none_there r.groups r.of in
        nothing plan (RecoversSoundly flags c) (λ run. (n : ℕ) → Has history n → Has (numbers_at run) n) (λ n h. subst (λ (l : List journal.Group). Has (map number l) n) none (r.has n h))
        (record { tree = m; recovers = subst (λ (n : Map). RecoversTo c n) (ap (applied m) none ∙ unmerged) r.is; sound = begins.sound })

    ended : (history : List ℕ) (new : Disk) (k : Option (Making Image qs plan jobs m)) → ReadsWith (AreMade k) m history new → EndsSoundly flags ps plan history new
    ended history new (Some k) h =
        with_history flags ps plan m h.groups (leave k h.groups h.of) (BeginsWith flags new new.holds) history h.are (λ rs sound. begins_again new h.groups rs h.untouched h.reads sound)
    ended history new None h =
        let none = none_there h.groups h.of in
        let sound = subst (λ (t : Map). IsSoundTree flags t ps) (sym (ap (applied m) none ∙ unmerged)) begins.sound in
        nothing plan (BeginsWith flags new new.holds) (λ run. history ≡ numbers_at run) (sym h.are ∙ ap (map number) none) (begins_again new h.groups ps h.untouched h.reads sound)

  -- whatever the tree into which it is merged is called, it is the one that the disk recovers to
  at_map : (n : Map) (P : Map → Type 0) → IsRecovered d.holds n → P m → P n
  at_map n P is p = subst P (sym (one_map n is)) p

  -- ---- the run

  -- whatever is reached from a disk that runs begin with stays sound
  pub all_reached : (course : Option (Course Chooses Image d.holds)) (history : List ℕ) (c : Map) → IsReached d course history c → StaysSound flags ps (plan_of course) history c
  all_reached course history c (inl (none, is)) = as_before (plan_of course) history c none is
  all_reached None history c (inr none) = absurd none
  all_reached (Some k) history c (inr r) =
      at_map k.tree (λ n. (chosen : Chooses n k.packages k.plan k.jobs) (made : Option (Making Image k.packages k.plan k.jobs n)) → RecoversWith (AreMade made) n history c → StaysSound flags ps k.plan history c)
      k.recovered (λ chosen made r. reached k.packages k.plan k.jobs chosen history c made r) k.chosen k.made r

  at_rest : (plan : List Group) (history : List ℕ) (new : Disk) → history ≡ [] → IsRecoveredDisk d.holds new → EndsSoundly flags ps plan history new
  at_rest plan history new none is =
      let same = one_map new.holds is.recovered in
      nothing plan (BeginsWith flags new new.holds) (λ run. history ≡ numbers_at run) none
      (rests new m ps is.settled (λ q. ap (λ (x : Map). x q) same) (rest_recovers new.holds is.recovered.cleared) begins.sound)

  -- a disk that has the groups of the history is again one that runs begin with
  pub all_ended : (course : Option (Course Chooses Image d.holds)) (history : List ℕ) (new : Disk) → HasGroups d course history new → EndsSoundly flags ps (plan_of course) history new
  all_ended course history new (inl (none, is)) = at_rest (plan_of course) history new none is
  all_ended None history new (inr none) = absurd none
  all_ended (Some k) history new (inr h) =
      at_map k.tree (λ n. (chosen : Chooses n k.packages k.plan k.jobs) (made : Option (Making Image k.packages k.plan k.jobs n)) → ReadsWith (AreMade made) n history new → EndsSoundly flags ps k.plan history new)
      k.recovered (λ chosen made h. ended k.packages k.plan k.jobs chosen history new made h) k.chosen k.made h

  -- the plan that is merged is a wanted one
  pub wanted : (k : Course Chooses Image d.holds) → Wants k.plan
  wanted k =
      at_map k.tree (λ n. Chooses n k.packages k.plan k.jobs → Wants k.plan) k.recovered (λ chosen. (fit k.packages k.plan k.jobs chosen).1) k.chosen
