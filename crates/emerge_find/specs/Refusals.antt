-- Why there is no plan.
use Rattle.std.specs.Prelude.{◌≡◌, ◌⊎◌, ℕ, List, ⊤}
use Rattle.file_tree.specs.Disk.{Map}
use Rattle.vdb_law.specs.Fields.{text_of}
use Rattle.vdb_law.specs.Packages.{Installed}
use Rattle.law_run.specs.Openings.{HasOpening}
use Rattle.visible_offers.specs.declared.candidate.Candidate.{Candidate}
use Rattle.visible_set.specs.Faults as offering
use Rattle.visible_set.specs.Offers.{AreOffers}
use Rattle.visible_set.specs.declared.offers.Hidden.{Hidden}
use Rattle.run_opening.specs.Faults as opens
use Rattle.run_opening.specs.declared.fault.OpeningFault.{OpeningFault}
use Rattle.plan_text.specs.Plans.{GroupValue}
use Rattle.emerge_choose.specs.Wishes.{WishValue}
use Rattle.emerge_find.specs.Choices.{AreChoices, Choices, flips_of}
use Rattle.emerge_find.specs.Files.{FailsAt, HoldsPlan, IsTooLong}
use Rattle.emerge_find.specs.Lacking.{Lacks}
use Rattle.emerge_find.specs.Worlds.{IsWish, MissesWanted}
use Rattle.emerge_find.specs.declared.asked.Aim.{Aim}
use Rattle.emerge_find.specs.declared.asked.Aim.TheVariants.{Atoms, File, Unmerge}
use Rattle.emerge_find.specs.declared.asked.Asked.{Asked}
use Rattle.emerge_find.specs.declared.ends.NoPlan.{NoPlan}
use Rattle.emerge_find.specs.declared.ends.NoPlan.TheVariants.{BacktrackLimit, BuildCycle, Limit, NoCandidate, NoOrder, NoSolution, NotPlanned, Offers, Opening, Refused, Text, Tree}

-- the map has offers
pub record HasOffers (m : Map) (flips : ℕ) : Type 0 where
  pub implicit : List (List ℕ)
  pub candidates : List Candidate
  pub hidden : List Hidden
  pub are : AreOffers m flips implicit candidates hidden

-- the map has offers, and the file that is aimed at is bad at the line, or the world file where it
-- counts; a missing one has line 0
abbrev pub HasBadFile : Map → Aim → List ℕ → ℕ → Type 0
HasBadFile m (Atoms wanted world update limit flips) path line =
    HasOffers m flips × MissesWanted m world (Text path line)
HasBadFile m (File file) path line =
    HasOffers m 0 × (path ≡ file) × FailsAt (text_of (m file)) line
HasBadFile m (Unmerge atoms) path line = ⊥

-- the map has offers, and the file that is aimed at has a group too many
abbrev pub HasLongFile : Map → Aim → Type 0
HasLongFile m (Atoms wanted world update limit flips) = ⊥
HasLongFile m (File file) = HasOffers m 0 × IsTooLong (text_of (m file))
HasLongFile m (Unmerge atoms) = ⊥

-- a file that is aimed at has a plan, and the world file has atoms where it counts
abbrev pub CanAim : Map → Aim → Type 0
CanAim m (Atoms wanted world update limit flips) =
    (wish : WishValue) × IsWish m wanted world update limit wish
CanAim m (File path) = (groups : List GroupValue) × HoldsPlan m path groups
CanAim m (Unmerge atoms) = ⊤

-- the map has offers and what is aimed at, and for this reason no run begins with its installed
-- packages; if they go together, there is too much of them, or the machine failed
pub record HasNoOpening (m : Map) (asked : Asked) (fault : OpeningFault) : Type 0 where
  pub implicit : List (List ℕ)
  pub candidates : List Candidate
  pub hidden : List Hidden
  pub offers : AreOffers m (flips_of asked.aim) implicit candidates hidden
  pub aimed : CanAim m asked.aim
  pub refused : opens.Refuses implicit m fault
  pub none : (ps : List Installed) → HasOpening implicit m ps →
      opens.IsOfMachine fault ⊎ opens.ArePast ps fault

-- the map has something to choose from, with these packages, and for this reason there is no plan
pub record HasNoPlan (m : Map) (asked : Asked) (ps : List Installed) (e : NoPlan) : Type 0 where
  pub all : Choices
  pub are : AreChoices m (flips_of asked.aim) all
  pub packages : ps ≡ all.packages
  pub lacks : Lacks m all asked.aim e

-- the text is that of the file that is aimed at: it is bad, or an addition has a flag that its
-- package doesn't know
abbrev pub IsOfFile : Map → Asked → List ℕ → ℕ → Type 0
IsOfFile m asked path line = HasBadFile m asked.aim path line
    ⊎ ((ps : List Installed) × HasNoPlan m asked ps (Text path line))

-- the file that is aimed at has a group too many, or what is chosen for atoms has
abbrev pub HasTooManyGroups : Map → Asked → Type 0
HasTooManyGroups m asked = HasLongFile m asked.aim
    ⊎ ((ps : List Installed) × HasNoPlan m asked ps Limit)

-- why the map has no plan for what is asked; a failure and want of memory say nothing of it
abbrev pub Refuses : Map → Asked → NoPlan → Type 0
Refuses m asked (Offers fault) = offering.IsOfMachine fault ⊎ offering.FirstFault m fault
Refuses m asked (Opening fault) = HasNoOpening m asked fault
Refuses m asked (Text path line) = IsOfFile m asked path line
Refuses m asked Limit = HasTooManyGroups m asked
Refuses m asked (NoCandidate atom reasons packages) =
    HasNoPlan m asked packages.items (NoCandidate atom reasons packages)
Refuses m asked (NoSolution dead packages) =
    HasNoPlan m asked packages.items (NoSolution dead packages)
Refuses m asked (BacktrackLimit refuted dead packages) =
    HasNoPlan m asked packages.items (BacktrackLimit refuted dead packages)
Refuses m asked (BuildCycle cycle packages) =
    HasNoPlan m asked packages.items (BuildCycle cycle packages)
Refuses m asked (NoOrder fault packages) =
    HasNoPlan m asked packages.items (NoOrder fault packages)
Refuses m asked (NotPlanned packages) =
    HasNoPlan m asked packages.items (NotPlanned packages)
Refuses m asked (Refused fault packages) =
    HasNoPlan m asked packages.items (Refused fault packages)
Refuses m asked (Tree fault) = ⊤

-- no fault of the offers comes that keeps the configuration from being read
abbrev pub IsRead : Map → NoPlan → Type 0
IsRead m (Offers fault) = offering.IsOfMachine fault ⊎ offering.IsBehind m fault
IsRead m e = ⊤
