-- Why the merge of a run's plan is stopped, and what it takes.
use Rattle.std.specs.Prelude.{◌≡◌, ℕ, Bool, true, List, [], IsTrue}
use Rattle.file_tree.specs.Disk.{Map}
use Rattle.vdb_law.specs.Packages.{Installed}
use Rattle.law_run.specs.Openings.{AreOwners}
use Rattle.owner_book.specs.Book.{Book}
use Rattle.merge_group.specs.Turns.{StopsBehind}
use Rattle.merge_group.specs.declared.stop.Stop.{Stop}
use Rattle.plan_law.specs.Plans.{Group}
use Rattle.run_turns.specs.Plans.{AreJobs, line_for}
use Rattle.run_turns.specs.declared.job.Job.{Job}
use Rattle.run_sound.specs.Ends.{Images, Making}
use Rattle.emerge_run.specs.Builds.{line_of}

-- the merge of the plan into this map, where these packages are installed, is stopped so behind
-- its first n groups: at the next one, with what was made for it
pub record StopsAt (Image : Images) (ps : List Installed) (plan : List Group) (jobs : List Job)
    (m : Map) (n : ℕ) (s : Stop) : Type 0 where
  pub making : Making Image ps plan jobs m
  pub behind : StopsBehind true m making.book making.groups making.turns n s

-- what the merge of the plan takes: its jobs, with its lines; nothing is claimed, and the owners
-- are these where the tree tells
pub record IsTask (tells : Bool) (m : Map) (ps : List Installed) (plan : List Group)
    (jobs : List Job) (book : Book) : Type 0 where
  pub are : AreJobs plan jobs
  pub lines : (n : ℕ) → line_for jobs n ≡ line_of plan n
  pub unclaimed : book.claims ≡ []
  pub owners : IsTrue tells → AreOwners m ps book
