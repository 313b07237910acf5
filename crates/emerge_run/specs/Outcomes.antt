-- What a run leaves: its tree, and its groups.
use Rattle.std.specs.Prelude.{◌≡◌, ◌≢◌, ◌⊎◌, true, false, ℕ, Bool, List, [], IfSome, IsTrue, Option, Some, string_bytes, ⊤}
use Rattle.file_tree.specs.Disk.{Map, Story}
use Rattle.file_tree.specs.Moments.{Leaves, Since}
use Rattle.file_tree.specs.declared.limits.Quantity.TheVariants.{Groups, Paths, RecordBytes}
use Rattle.vdb_law.specs.Packages.{Installed}
use Rattle.merge_core.specs.Trail.{IsAtRest}
use Rattle.merge_journal.specs.Recovered.{IsRecovered}
use Rattle.merge_group.specs.Applied.{LeavesWith, ReadsWith, RecoversWith}
use Rattle.law_run.specs.Ends.{IsImageOrAlike}
use Rattle.plan_law.specs.Plans.{Group}
use Rattle.emerge_choose.specs.declared.chosen.Chosen.{Chosen}
use Rattle.emerge_find.specs.Choices.{IsFound}
use Rattle.emerge_find.specs.declared.asked.Asked.{Asked}
use Rattle.emerge_find.specs.declared.found.Found.{Found}
use Rattle.run_turns.specs.declared.job.Job.{Job}
use Rattle.run_sound.specs.Ends.{AreMade, Course, HasGroups, Images, IsReached, LeavesGroups, Making}
use Rattle.plan_text.specs.Plans.{plan_value}
use Rattle.plan_text.specs.Texts.{plan_text}
use Rattle.emerge_run.specs.Answers.{AsksEarly, IsReady}
use Rattle.emerge_run.specs.Builds.{AreJobsOf}
use Rattle.emerge_run.specs.Words.{IsOfWords, IsRequest}
use Rattle.emerge_run.specs.declared.choosing.Work.{Work}
use Rattle.emerge_run.specs.declared.choosing.Work.TheVariants as work
use Rattle.merge_report.specs.declared.status.Part.TheVariants.{Command}
use Rattle.merge_report.specs.declared.status.Status.{Status}
use Rattle.merge_report.specs.declared.status.Status.TheVariants as status

-- What the merge of a plan leaves of a tree at rest, with what was made for its groups, if memory
-- and the device let it. Each crash image of each moment recovers to the tree from before with a
-- run of the plan, at the end with all of the history in it; and the tree has just the history,
-- which is a run, unless the device failed or memory ran out.
pub record MergedTo (Image : Images) (ps : List Installed) (plan : List Group) (jobs : List Job)
    (old new : Story) (history : List ℕ) (s : Status) : Type 0 where
  pub made : Option (Making Image ps plan jobs old.now.holds)
  pub moments : Since (RecoversWith (AreMade made) old.now.holds []) old new
  pub crash : Leaves (RecoversWith (AreMade made) old.now.holds history) new.now
  pub left : s ≢ status.DeviceFault → LeavesWith (AreMade made) old.now.holds history new.now
  pub tree : s ≢ status.DeviceFault → s ≢ status.Memory →
      ReadsWith (AreMade made) old.now.holds history new.now

-- the words ask for a merge, and this is found for it in a map, over these packages, which are
-- installed there
pub record IsChosenFor (words : List (List ℕ)) (m : Map) (ps : List Installed)
    (found : Found) : Type 0 where
  pub asked : Asked
  pub is : IsRequest words asked
  pub ready : IsReady m asked found
  pub packages : ps ≡ found.packages.items

-- .. with this plan
abbrev pub IsWantedPlan : List (List ℕ) → Map → List Installed → List Group → Type 0
IsWantedPlan words m ps plan =
    (found : Found) × IsChosenFor words m ps found × (found.chosen.plan ≡ plan)

-- .. and with the jobs of its groups
abbrev pub IsChoice : List (List ℕ) → Map → List Installed → List Group → List Job → Type 0
IsChoice words m ps plan jobs = (found : Found) × IsChosenFor words m ps found
    × (found.chosen.plan ≡ plan) × AreJobsOf found.chosen jobs

-- an answer that a run gives once its tree is recovered, and that says how it went there
abbrev pub IsOfTree : Status → Type 0
IsOfTree (status.Usage fault) = ⊥
IsOfTree (status.BadJournal fault) = ⊥
IsOfTree (status.Limit Groups) = ⊥
IsOfTree (status.NotBuilt Command) = ⊥
IsOfTree status.DeviceFault = ⊥
IsOfTree status.OutputFault = ⊥
IsOfTree status.Memory = ⊥
IsOfTree s = ⊤

-- a run has recovered its tree, which is at rest
pub record HasRecovered (old new : Story) : Type 0 where
  pub moments : Since (IsImageOrAlike old.now) old new
  pub recovered : IsRecovered old.now.holds new.now.holds
  pub rest : IsAtRest new.now.holds new.now

-- what the tree holds where a run ended for its journal: what it held; with too many groups that,
-- or what recovery made of it, since a plan may have too many of them, too
abbrev pub KeepsJournal : Story → Story → Status → Type 0
KeepsJournal old new (status.BadJournal fault) = new.now.holds ≡ old.now.holds
KeepsJournal old new (status.Limit Groups) =
    (new.now.holds ≡ old.now.holds) ⊎ HasRecovered old new
KeepsJournal old new s = ⊤

-- What a run leaves of this tree, and which plan came back. There is one plan that it merges, the
-- one that came back, with one list of images and turns of its groups; or none. Each crash image of
-- each moment is one of the beginning, or recovers to what the tree recovered to, with a run of
-- that plan, at the end with all of the history in it; unless the device failed with just the
-- history, which is a run; a run that tells how it went leaves a tree that reads so; one that ends
-- at its words leaves it as it was, and one that refuses its journal as it read.
pub record Outcome (words : List (List ℕ)) (Image : Images) (back : Option (List Group))
    (old new : Story) (history : List ℕ) (s : Status) : Type 0 where
  pub course : Option (Course (IsChoice words) Image old.now.holds)
  pub plan : IfSome course (λ k. back ≡ Some k.plan)
  pub moments : Since (IsReached old.now course []) old new
  pub crash : Leaves (IsReached old.now course history) new.now
  pub left : s ≢ status.DeviceFault → LeavesGroups old.now course history new.now
  pub tree : IsOfTree s → HasGroups old.now course history new.now
  pub unchanged : IsOfWords s → new ≡ old
  pub journal : KeepsJournal old new s

-- How a run over this tree ended that found no plan: with the answer that it asks for. Each crash
-- image of each moment is one of the beginning, or recovers to what the tree recovered to; a run
-- that tells how it went leaves what recovery made of the tree; one that ends at its words leaves
-- it as it was, and one that refuses its journal as it read.
pub record EndsEarly (words : List (List ℕ)) (old new : Story) (s : Status) : Type 0 where
  pub answer : AsksEarly words old.now.holds s
  pub moments : Since (IsImageOrAlike old.now) old new
  pub tree : IsOfTree s → HasRecovered old new
  pub unchanged : IsOfWords s → new ≡ old
  pub journal : KeepsJournal old new s

-- this text is that of what is chosen
abbrev pub IsTextOf : Chosen → List ℕ → Type 0
IsTextOf chosen text = text ≡ plan_text (plan_value chosen.text)

-- what is found in a map for what is asked is only shown, as this text, of this plan
pub record IsToShow (words : List (List ℕ)) (m : Map) (ps : List Installed) (text : List ℕ)
    (plan : List Group) : Type 0 where
  pub asked : Asked
  pub is : IsRequest words asked
  pub only : asked.pretend ≡ true
  pub found : Found
  pub in_map : IsFound m asked found
  pub packages : ps ≡ found.packages.items
  pub text_is : IsTextOf found.chosen text
  pub plan_is : found.chosen.plan ≡ plan

-- what a run is to do in a map with these packages
abbrev pub IsToDo : List (List ℕ) → Map → List Installed → Work → Type 0
IsToDo words m ps (work.Show text plan) = IsToShow words m ps (string_bytes text) plan
IsToDo words m ps (work.Rest plan) = IsChoice words m ps plan [] × (plan ≡ [])
IsToDo words m ps (work.Merge plan task) = IsChoice words m ps plan task.jobs.items

-- the words ask for a merge, and what they choose in what recovery makes of a tree is this plan;
-- of a tree that tells nothing only that they ask for one
pub record IsNamed (words : List (List ℕ)) (tells : Bool) (opening : Map)
    (plan : List Group) : Type 0 where
  pub asked : Asked
  pub is : IsRequest words asked
  pub done : asked.pretend ≡ false
  pub names : IsTrue tells → (m : Map) × IsRecovered opening m
      × ((found : Found) × IsReady m asked found × (found.chosen.plan ≡ plan))

-- the same of a text that is only shown
pub record IsShownAs (words : List (List ℕ)) (tells : Bool) (opening : Map) (text : List ℕ) :
    Type 0 where
  pub asked : Asked
  pub is : IsRequest words asked
  pub only : asked.pretend ≡ true
  pub text_is : IsTrue tells → (m : Map) × IsRecovered opening m
      × ((found : Found) × IsFound m asked found × IsTextOf found.chosen text)

-- the same of what is to be done
abbrev pub IsWork : List (List ℕ) → Bool → Map → Work → Type 0
IsWork words tells opening (work.Show text plan) =
    IsShownAs words tells opening (string_bytes text)
IsWork words tells opening (work.Rest plan) = IsNamed words tells opening plan
IsWork words tells opening (work.Merge plan task) = IsNamed words tells opening plan

-- the plan is that of what the words choose in what recovery makes of a tree, be it merged or
-- shown
abbrev pub IsPlanOf : List (List ℕ) → Map → List Group → Type 0
IsPlanOf words opening plan = (asked : Asked) × IsRequest words asked
    × ((m : Map) × IsRecovered opening m
    × ((found : Found) × IsFound m asked found × (found.chosen.plan ≡ plan)))

-- the command was done
abbrev pub IsDone : Status → Type 0
IsDone (status.Ok groups) = ⊤
IsDone s = ⊥

-- an answer of a run that merged nothing
abbrev pub IsRefusal : Status → Type 0
IsRefusal (status.Ok groups) = ⊥
IsRefusal (status.Collision c) = ⊥
IsRefusal (status.BadImage b) = ⊥
IsRefusal (status.BuildFailed id) = ⊥
IsRefusal (status.Limit Paths) = ⊥
IsRefusal (status.Limit RecordBytes) = ⊥
IsRefusal status.DeviceFault = ⊥
IsRefusal status.OutputFault = ⊥
IsRefusal status.Memory = ⊥
IsRefusal s = ⊤

-- an answer that tells of the first group that isn't in the tree, if there is one: each group
-- before it is acknowledged
abbrev pub IsTold : Status → Type 0
IsTold status.DeviceFault = ⊥
IsTold status.OutputFault = ⊥
IsTold status.Memory = ⊥
IsTold s = ⊤

-- the answers before a plan is found: no Ok, and none of the output or of a group
abbrev pub IsEarly : Status → Type 0
IsEarly (status.Ok groups) = ⊥
IsEarly (status.Collision c) = ⊥
IsEarly (status.BadImage b) = ⊥
IsEarly (status.BuildFailed id) = ⊥
IsEarly status.OutputFault = ⊥
IsEarly s = ⊤

-- the answers of the merge of a plan
abbrev pub IsOfMerge : Status → Type 0
IsOfMerge (status.Ok groups) = ⊤
IsOfMerge (status.Collision c) = ⊤
IsOfMerge (status.BadImage b) = ⊤
IsOfMerge (status.BuildFailed id) = ⊤
IsOfMerge (status.Limit Paths) = ⊤
IsOfMerge (status.Limit RecordBytes) = ⊤
IsOfMerge status.DeviceFault = ⊤
IsOfMerge status.OutputFault = ⊤
IsOfMerge status.Memory = ⊤
IsOfMerge s = ⊥
