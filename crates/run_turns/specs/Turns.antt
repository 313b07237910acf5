-- The turns of a run that are made of the groups of a plan, each when those before it are merged.
use Rattle.std.specs.Prelude.{◌≡◌, ◌<◌, ℕ, suc, List, [], ◌∷◌, length, map, ⊤}
use Rattle.std.specs.List.{AllByRecursion, AllZip}
use Rattle.build_pool.specs.declared.orders.Order.{Order}
use Rattle.file_tree.specs.declared.objects.Entry.{Entry}
use Rattle.plan_law.specs.Plans.{Group, group_at}
use Rattle.vdb_law.specs.Packages.{Installed}
use Rattle.merge_group.specs.declared.turn.Turn.{Turn}
use Rattle.run_files.specs.Made.{AreFilesFor, IsNamed, package_of}
use Rattle.run_files.specs.declared.newcomer.Newcomer.{Newcomer}
use Rattle.run_turns.specs.Held.{AreHeldRemovals, Holdings, holding_all}
use Rattle.run_turns.specs.Plans.{coming, orders_at}
use Rattle.run_turns.specs.declared.job.Job.{Job}

-- the turn of a group that brings these newcomers: their files are placed, under their keys beside
-- all packages of the plan, and what is held for the packages that it removes goes
pub record IsTurnOf (ps : List Installed) (plan : List Group) (g : Group) (held : Holdings)
    (newcomers : List Newcomer) (t : Turn) : Type 0 where
  pub named : AllByRecursion IsNamed newcomers
  pub files : AllZip (AreFilesFor ps (coming plan)) newcomers t.packages.items
  pub removes : AreHeldRemovals held g.removals t.packages.items t.removals.items

-- the newcomers are the additions of the group at a place of the plan, with images for their orders
pub record AreNewcomersAt (Image : Order → List Entry → Type 0) (plan : List Group)
    (jobs : List Job) (place : ℕ) (newcomers : List Newcomer) : Type 0 where
  pub there : place < length plan
  pub brings : map package_of newcomers ≡ (group_at plan place).additions
  pub images : AllZip (λ o n. Image o n.image.items) (orders_at jobs place) newcomers

-- the turns are those of the groups from a place on, each over what those before it held
abbrev pub AreTurns : (Order → List Entry → Type 0) → List Installed → List Group → List Job → ℕ →
    Holdings → List Turn → Type 0
AreTurns Image ps plan jobs place held [] = ⊤
AreTurns Image ps plan jobs place held (t ∷ ts) = (t.group ≡ suc place)
    × ((newcomers : List Newcomer) × AreNewcomersAt Image plan jobs place newcomers
    × IsTurnOf ps plan (group_at plan place) held newcomers t
    × AreTurns Image ps plan jobs (suc place) (holding_all newcomers t.packages.items held) ts)
