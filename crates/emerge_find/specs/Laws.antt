-- What the laws of a run ask of the plan that it merges: a plan that was found is so.
use Rattle.std.specs.Prelude.{◌≡◌, ℕ, List, []}
use Rattle.basics.specs.Members.{Has}
use Rattle.file_tree.specs.Disk.{Map}
use Rattle.pkg_state.specs.Package.{Package}
use Rattle.plan_law.specs.Accepted.{IsAccepted}
use Rattle.plan_law.specs.Plans.{Group, WaitsForEarlier}
use Rattle.law_commit.specs.Lit.{as_recorded, lit, packages_of}
use Rattle.vdb_files.specs.Recorded.{IsRecordable}
use Rattle.vdb_files.specs.Written.{installed_with}
use Rattle.emerge_find.specs.Choices.{IsFound}
use Rattle.emerge_find.specs.declared.asked.Asked.{Asked}
use Rattle.emerge_find.specs.declared.found.Found.{Found}

-- the package can be recorded: what it needs is in form, and what is recorded of it is the package
-- again with the flags on that the run has on for every package
pub record CanBeKept (implicit : List (List ℕ)) (p : Package) : Type 0 where
  pub needs : IsRecordable (installed_with p [])
  pub enabled : lit implicit (as_recorded p) ≡ p

-- each group of the plan waits for earlier ones alone, the plan is accepted over the installed
-- packages, as the run sees them, and what comes with it can be recorded
pub record IsFit (found : Found) : Type 0 where
  pub earlier : WaitsForEarlier found.chosen.plan
  pub accepted :
      IsAccepted found.chosen.plan (packages_of found.implicit found.packages.items)
  pub kept : (g : Group) (p : Package) → Has found.chosen.plan g → Has g.additions p →
      CanBeKept found.implicit p

-- A plan that was found is fit.
abbrev pub FoundPlansAreFit : Type 0
FoundPlansAreFit =
    (m : Map) (asked : Asked) (found : Found) → IsFound m asked found → IsFit found
