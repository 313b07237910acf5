-- The installed packages that a run gives back.
use Rattle.std.specs.Prelude.{◌≡◌, ◌⊎◌, List, [], ⊤}
use Rattle.file_tree.specs.Disk.{Map}
use Rattle.file_tree.specs.declared.limits.Quantity.{Quantity}
use Rattle.file_tree.specs.declared.limits.Quantity.TheVariants.{Candidates, Groups, Packages, Paths}
use Rattle.vdb_law.specs.Database.{IsDatabase, IsTidy}
use Rattle.vdb_law.specs.Packages.{Installed}
use Rattle.merge_journal.specs.Recovered.{IsRecovered}
use Rattle.run_opening.specs.Faults.{HasTooMuch}
use Rattle.merge_report.specs.declared.status.Part.TheVariants.{Command, Result}
use Rattle.merge_report.specs.declared.status.Status.{Status}
use Rattle.merge_report.specs.declared.status.Status.TheVariants as status

-- these packages are installed in a map, and apart
pub record AreInstalled (m : Map) (ps : List Installed) : Type 0 where
  pub database : IsDatabase m ps
  pub tidy : IsTidy ps

-- the same in what a map recovers to
abbrev pub AreInstalledAfter : Map → List Installed → Type 0
AreInstalledAfter opening ps = (m : Map) × IsRecovered opening m × AreInstalled m ps

-- the database of what a map recovers to has more of the quantity than may be
abbrev pub HasTooMuchAfter : Map → Quantity → Type 0
HasTooMuchAfter opening quantity = (m : Map) × IsRecovered opening m × HasTooMuch m quantity

-- a run that answers so ended before it had read the database, or for a plan of too many groups
abbrev pub IsUnread : Status → Type 0
IsUnread (status.Usage fault) = ⊤
IsUnread (status.BadText path line) = ⊤
IsUnread (status.BadDatabase fault) = ⊤
IsUnread (status.BadJournal fault) = ⊤
IsUnread (status.Limit Groups) = ⊤
IsUnread (status.Limit Packages) = ⊤
IsUnread (status.Limit Candidates) = ⊤
IsUnread (status.NotBuilt Command) = ⊤
IsUnread s = ⊥

-- one that answers so has read it; too many paths a database may have, too, and then it isn't read
abbrev pub HasRead : Status → Type 0
HasRead (status.Ok groups) = ⊤
HasRead (status.Inconsistent fault) = ⊤
HasRead (status.NoCandidate atom reasons) = ⊤
HasRead (status.NoSolution dead) = ⊤
HasRead (status.BacktrackLimit refuted dead) = ⊤
HasRead (status.PlanRefused fault) = ⊤
HasRead (status.BuildCycle packages) = ⊤
HasRead (status.NoOrder fault) = ⊤
HasRead (status.Collision c) = ⊤
HasRead (status.BadImage b) = ⊤
HasRead (status.BuildFailed id) = ⊤
HasRead (status.Limit Groups) = ⊥
HasRead (status.Limit Packages) = ⊥
HasRead (status.Limit Candidates) = ⊥
HasRead (status.Limit Paths) = ⊥
HasRead (status.Limit quantity) = ⊤
HasRead (status.NotBuilt Result) = ⊤
HasRead s = ⊥

-- the packages that a run with this answer gives back are such, where it has read the database,
-- and else they are such or none; where there are too many paths none come only of such a database
pub record GivesBack (Such : List Installed → Type 0) (TooMuch : Quantity → Type 0) (s : Status)
    (ps : List Installed) : Type 0 where
  pub read : HasRead s → Such ps
  pub paths : s ≡ status.Limit Paths → Such ps ⊎ ((ps ≡ []) × TooMuch Paths)
  pub whole : (ps ≡ []) ⊎ Such ps

-- one that answers so has found its plan, which was accepted
abbrev pub HasPlan : Status → Type 0
HasPlan (status.Ok groups) = ⊤
HasPlan (status.Collision c) = ⊤
HasPlan (status.BadImage b) = ⊤
HasPlan (status.BuildFailed id) = ⊤
HasPlan s = ⊥
