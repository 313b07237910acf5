-- What a run has found to do.
use Rattle.std.specs.Prelude.{◌≡◌, Bool, true, false, List, [], string_bytes, ⊤}
use Rattle.file_tree.specs.Disk.{Map}
use Rattle.owner_book.specs.Book.{Book}
use Rattle.vdb_law.specs.Packages.{Installed}
use Rattle.emerge_choose.specs.declared.chosen.Chosen.{Chosen}
use Rattle.emerge_find.specs.Choices.{IsFound}
use Rattle.emerge_find.specs.declared.asked.Asked.{Asked}
use Rattle.emerge_find.specs.declared.found.Found.{Found}
use Rattle.emerge_run.specs.Builds.{AreJobsOf}
use Rattle.emerge_run.specs.Outcomes.{IsTextOf}
use Rattle.emerge_run.specs.Package.{IsTask}
use Rattle.emerge_run.specs.declared.choosing.Work.{Work}
use Rattle.emerge_run.specs.declared.choosing.Work.TheVariants as work

-- what is to be done with what is chosen
abbrev pub IsPrepared : Chosen → Book → Bool → Work → Type 0
IsPrepared chosen book pretend (work.Show text plan) =
    (pretend ≡ true) × IsTextOf chosen (string_bytes text) × (chosen.plan ≡ plan)
IsPrepared chosen book pretend (work.Rest plan) =
    (pretend ≡ false) × (chosen.plan ≡ plan) × (plan ≡ []) × AreJobsOf chosen []
IsPrepared chosen book pretend (work.Merge plan task) =
    (pretend ≡ false) × (chosen.plan ≡ plan) × AreJobsOf chosen task.jobs.items
    × (task.book ≡ book)

-- it is found in a map for what is asked, over these packages
abbrev pub IsWanted : Map → Asked → List Installed → Work → Type 0
IsWanted m asked ps w = (found : Found) × IsFound m asked found × (ps ≡ found.packages.items)
    × IsPrepared found.chosen found.book asked.pretend w

-- what its merge takes
abbrev pub IsTaskOf : Bool → Map → List Installed → Work → Type 0
IsTaskOf tells m ps (work.Show text plan) = ⊤
IsTaskOf tells m ps (work.Rest plan) = ⊤
IsTaskOf tells m ps (work.Merge plan task) = IsTask tells m ps plan task.jobs.items task.book

-- it is shown or merged, as is asked
abbrev pub IsAsked : Asked → Work → Type 0
IsAsked asked (work.Show text plan) = asked.pretend ≡ true
IsAsked asked (work.Rest plan) = asked.pretend ≡ false
IsAsked asked (work.Merge plan task) = asked.pretend ≡ false
