-- The answer that the words, the tree and the images ask for.
use Rattle.std.specs.Prelude.{◌≡◌, ◌⊎◌, ℕ, true, false, List, length, ⊤}
use Rattle.file_tree.specs.Disk.{Map}
use Rattle.file_tree.specs.declared.limits.Quantity.TheVariants.{Groups, Paths, RecordBytes}
use Rattle.merge_site.specs.declared.fault.ClaimStop.TheVariants as claims
use Rattle.merge_group.specs.declared.stop.Stop.TheVariants as stops
use Rattle.merge_journal.specs.Recovered.{IsRecovered}
use Rattle.owner_book.specs.declared.fault.Collision as books
use Rattle.recovery.specs.Found.{HasTooManyGates}
use Rattle.recovery.specs.Promise.{IsFaultOf}
use Rattle.recovery.specs.declared.fault.RecoverFault.{RecoverFault}
use Rattle.recovery.specs.declared.fault.RecoverFault.TheVariants as recovery
use Rattle.vdb_law.specs.Packages.{Installed}
use Rattle.plan_law.specs.Plans.{Group}
use Rattle.emerge_find.specs.Choices.{IsFound}
use Rattle.emerge_find.specs.Refusals.{Refuses}
use Rattle.emerge_find.specs.declared.asked.Asked.{Asked}
use Rattle.emerge_find.specs.declared.ends.NoPlan.{NoPlan}
use Rattle.emerge_find.specs.declared.found.Found.{Found}
use Rattle.run_turns.specs.declared.job.Job.{Job}
use Rattle.run_plan.specs.Runs.{upto}
use Rattle.run_sound.specs.Ends.{Images}
use Rattle.emerge_run.specs.Builds.{AreJobsOf, IsOrdered, IsPastLimit}
use Rattle.emerge_run.specs.Collisions.{ids_with, status_of_collision}
use Rattle.emerge_run.specs.Package.{StopsAt}
use Rattle.emerge_run.specs.Refusals.{status_of}
use Rattle.emerge_run.specs.Words.{AskForMerge, AskForOther, IsRequest, IsUsage}
use Rattle.merge_report.specs.declared.status.Part.TheVariants.{Command}
use Rattle.merge_report.specs.declared.status.Status.{Status}
use Rattle.merge_report.specs.declared.status.Status.TheVariants as status

-- this is found in a map for what is asked, and it is merged
pub record IsReady (m : Map) (asked : Asked) (found : Found) : Type 0 where
  pub is : IsFound m asked found
  pub done : asked.pretend ≡ false

-- what is found is only shown
abbrev pub IsShown : Map → Asked → Type 0
IsShown m asked = (found : Found) × IsFound m asked found × (asked.pretend ≡ true)

-- The answer of the merge of a plan's groups over a tree, behind those of the history: Ok means
-- that all are merged. Each refusal is one of the next group, for a build, an object, the record or
-- the claim.
abbrev pub AsksMerge : Images → List Installed → List Group → List Job → Map → List ℕ → Status →
    Type 0
AsksMerge Image ps plan jobs m history (status.Ok groups) =
    (history ≡ upto (length plan)) × (groups ≡ length plan)
AsksMerge Image ps plan jobs m history (status.Collision c) = (k : books.Collision)
    × (status_of_collision (ids_with ps plan) k ≡ status.Collision c)
    × StopsAt Image ps plan jobs m (length history) (stops.Claim (claims.Collision k))
AsksMerge Image ps plan jobs m history (status.BadImage b) =
    StopsAt Image ps plan jobs m (length history) (stops.Image b)
    ⊎ StopsAt Image ps plan jobs m (length history) (stops.Claim (claims.Image b))
AsksMerge Image ps plan jobs m history (status.BuildFailed id) =
    IsOrdered jobs (length history) id
AsksMerge Image ps plan jobs m history (status.Limit Paths) =
    IsPastLimit Image jobs (length history)
    ⊎ StopsAt Image ps plan jobs m (length history) (stops.Claim claims.Limit)
AsksMerge Image ps plan jobs m history (status.Limit RecordBytes) =
    StopsAt Image ps plan jobs m (length history) stops.Limit
AsksMerge Image ps plan jobs m history status.DeviceFault = ⊤
AsksMerge Image ps plan jobs m history status.OutputFault = ⊤
AsksMerge Image ps plan jobs m history status.Memory = ⊤
AsksMerge Image ps plan jobs m history s = ⊥

-- the answer of the merge of the plan that is found, with the jobs of its groups
pub record AsksPlan (asked : Asked) (m : Map) (Image : Images) (history : List ℕ) (s : Status) :
    Type 0 where
  pub found : Found
  pub ready : IsReady m asked found
  pub jobs : List Job
  pub are : AreJobsOf found.chosen jobs
  pub asks : AsksMerge Image found.packages.items found.chosen.plan jobs m history s

-- the answer of a run that finds a plan for what is asked: of its merge, or that it is only shown
abbrev pub AsksFor : Asked → Map → Images → List ℕ → Status → Type 0
AsksFor asked m Image history (status.Ok groups) =
    AsksPlan asked m Image history (status.Ok groups) ⊎ (IsShown m asked × (groups ≡ 0))
AsksFor asked m Image history s = AsksPlan asked m Image history s

-- the same, for what the words ask and what recovery makes of a tree
abbrev pub AsksAfter : List (List ℕ) → Map → Images → List ℕ → Status → Type 0
AsksAfter words opening Image history s =
    (asked : Asked) × IsRequest words asked
    × ((m : Map) × IsRecovered opening m × AsksFor asked m Image history s)

-- nothing is found in a map for what is asked, for a reason that is told so
abbrev pub IsRefused : Map → Asked → Status → Type 0
IsRefused m asked s = (e : NoPlan) × Refuses m asked e × (s ≡ status_of e)

-- the same, for what the words ask and what recovery makes of a tree
abbrev pub IsRefusedAfter : List (List ℕ) → Map → Status → Type 0
IsRefusedAfter words opening s =
    (asked : Asked) × IsRequest words asked
    × ((m : Map) × IsRecovered opening m × IsRefused m asked s)

-- the first open group of the tree that isn't in form, where its gates aren't too many
abbrev pub IsBroken : RecoverFault → Map → Type 0
IsBroken (recovery.BadRecord g) m = IsFaultOf (recovery.BadRecord g) m
IsBroken (recovery.BadStage g i) m = IsFaultOf (recovery.BadStage g i) m
IsBroken fault m = ⊥

-- The answer of a run over this tree that finds no plan. Usage comes exactly where the words are
-- refused for just this, another command is told as one, and the journal is refused exactly where
-- it has too many gates or is broken so; any other refusal comes exactly where it is the first. A
-- failure or want of memory may come in place of any of them.
abbrev pub AsksEarly : List (List ℕ) → Map → Status → Type 0
AsksEarly words opening (status.Usage fault) = IsUsage words fault
AsksEarly words opening (status.NotBuilt Command) = AskForOther words
AsksEarly words opening (status.BadJournal fault) = AskForMerge words × IsBroken fault opening
AsksEarly words opening (status.Limit Groups) =
    (AskForMerge words × HasTooManyGates opening)
    ⊎ IsRefusedAfter words opening (status.Limit Groups)
AsksEarly words opening status.DeviceFault = ⊤
AsksEarly words opening status.Memory = ⊤
AsksEarly words opening s = IsRefusedAfter words opening s

-- The answer of a run over this tree and these images, with this history: that of its plan, or of
-- how it finds none. Ok means that nothing is refused, and that all groups of the plan are merged,
-- or that it is only shown.
abbrev pub Asks : List (List ℕ) → Map → Images → List ℕ → Status → Type 0
Asks words opening Image history (status.Ok groups) =
    AsksAfter words opening Image history (status.Ok groups)
Asks words opening Image history (status.Collision c) =
    AsksAfter words opening Image history (status.Collision c)
Asks words opening Image history (status.BadImage b) =
    AsksAfter words opening Image history (status.BadImage b)
Asks words opening Image history (status.BuildFailed id) =
    AsksAfter words opening Image history (status.BuildFailed id)
Asks words opening Image history (status.Limit quantity) =
    AsksEarly words opening (status.Limit quantity)
    ⊎ AsksAfter words opening Image history (status.Limit quantity)
Asks words opening Image history status.OutputFault = ⊤
Asks words opening Image history s = AsksEarly words opening s
