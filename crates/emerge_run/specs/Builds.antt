-- What is ordered for the plan that a run has found, and the lines of its groups.
use Rattle.std.specs.Prelude.{◌≡◌, ◌<◌, ℕ, zero, suc, List, [], ◌∷◌, Option, None, Some, length, slice_get}
use Rattle.basics.specs.Members.{Has}
use Rattle.build_pool.specs.declared.orders.Order.{Order}
use Rattle.dep_atom.specs.declared.package.PackageId.{PackageId}
use Rattle.file_tree.specs.declared.objects.Entry.{Entry}
use Rattle.merge_image.specs.declared.limits.TheConstants.{MOST_ENTRIES}
use Rattle.plan_law.specs.Plans.{Group}
use Rattle.emerge_choose.specs.declared.chosen.Chosen.{Chosen}
use Rattle.run_turns.specs.Plans.{AreJobs, line_for, orders_at}
use Rattle.run_turns.specs.declared.job.Job.{Job}
use Rattle.run_sound.specs.Ends.{Images}
use Rattle.plan_text.specs.Plans.{GroupValue, plan_value}
use Rattle.merge_report.specs.Texts.{done_line}

-- what is ordered for a group: the additions of its text
abbrev pub orders_in : GroupValue → List Order
orders_in g = g.additions

abbrev pub orders_or_none : Option GroupValue → List Order
orders_or_none None = []
orders_or_none (Some g) = orders_in g

-- .. of the group at a place of what is chosen
abbrev pub orders_for : Chosen → ℕ → List Order
orders_for chosen place = orders_or_none (slice_get (plan_value chosen.text) place)

abbrev pub line_or_none : ℕ → Option Group → List ℕ
line_or_none n None = []
line_or_none n (Some g) = done_line g n

-- the line of a group of a plan, by its number
abbrev pub line_of : List Group → ℕ → List ℕ
line_of plan zero = []
line_of plan (suc place) = line_or_none (suc place) (slice_get plan place)

-- the lines of groups, the first of which has this number
abbrev pub lines_from : ℕ → List Group → List (List ℕ)
lines_from n [] = []
lines_from n (g ∷ gs) = done_line g n ∷ lines_from (suc n) gs

abbrev pub ordered_of_job : Job → List Order
ordered_of_job job = job.orders.items

-- the jobs of what is chosen: of each group its line, and what is ordered for its additions
pub record AreJobsOf (chosen : Chosen) (jobs : List Job) : Type 0 where
  pub are : AreJobs chosen.plan jobs
  pub lines : (n : ℕ) → line_for jobs n ≡ line_of chosen.plan n
  pub orders : (place : ℕ) → orders_at jobs place ≡ orders_for chosen place

-- a package of this name and version is ordered for the group at a place
abbrev pub IsOrdered : List Job → ℕ → PackageId → Type 0
IsOrdered jobs place id = (order : Order) × Has (orders_at jobs place) order × (order.id ≡ id)

-- the image that is made for one of the orders for the group at a place has too many entries
pub record IsPastLimit (Image : Images) (jobs : List Job) (place : ℕ) : Type 0 where
  pub order : Order
  pub ordered : Has (orders_at jobs place) order
  pub image : List Entry
  pub made : Image order image
  pub many : MOST_ENTRIES < length image
