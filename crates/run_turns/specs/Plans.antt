-- What is known of the groups of a plan before the first of them is merged. They are numbered
-- from 1.
use Rattle.std.specs.Prelude.{◌≡◌, ◌<◌, ◌∷◌, ℕ, zero, suc, Bool, List, [], Option, None, Some, bytes_eq, length, map, slice_get}
use Rattle.std.specs.List.{flat_map, list_any}
use Rattle.build_pool.specs.declared.orders.Order.{Order}
use Rattle.dep_atom.specs.Ids.{id_text}
use Rattle.dep_atom.specs.declared.package.PackageId.{PackageId}
use Rattle.merge_record.specs.declared.record.OwnerKey.{OwnerKey}
use Rattle.merge_site.specs.declared.group.SiteGroup.{SiteGroup}
use Rattle.pkg_state.specs.Package.{Package}
use Rattle.plan_law.specs.Plans.{Group, Removal, group_at}
use Rattle.vdb_law.specs.Database.{folder_name}
use Rattle.vdb_law.specs.Packages.{Installed}
use Rattle.law_run.specs.Openings.{key_at, place_of}
use Rattle.run_files.specs.Keys.{folders_with}
use Rattle.run_turns.specs.declared.job.Job.{Job}

-- the packages that come with a plan, group by group
abbrev pub coming : List Group → List Package
coming plan = flat_map (λ g. g.additions) plan

-- the key of the package with this id: the first place of its folder among those of the packages
-- that are installed and those that come behind them
abbrev pub key_of_id : List Installed → List Group → PackageId → OwnerKey
key_of_id ps plan id = key_at (place_of (id_text id) (folders_with ps (coming plan)))

-- one of the removals names the package of this folder
abbrev pub names_folder : List Removal → List ℕ → Bool
names_folder removals folder = list_any (λ r. bytes_eq (id_text r.id) folder) removals

-- a removal of the group names the package
abbrev pub is_named : Group → Installed → Bool
is_named g p = names_folder g.removals (folder_name p)

-- the line of a group, by its number
abbrev pub line_of_job : Option Job → List ℕ
line_of_job None = []
line_of_job (Some job) = job.line.items

abbrev pub line_for : List Job → ℕ → List ℕ
line_for jobs zero = []
line_for jobs (suc place) = line_of_job (slice_get jobs place)

-- what is ordered for the additions of the group at a place
abbrev pub orders_of_job : Option Job → List Order
orders_of_job None = []
orders_of_job (Some job) = job.orders.items

abbrev pub orders_at : List Job → ℕ → List Order
orders_at jobs place = orders_of_job (slice_get jobs place)

-- each group has a job, with an order for each of its additions
pub record AreJobs (plan : List Group) (jobs : List Job) : Type 0 where
  pub count : length jobs ≡ length plan
  pub orders : (place : ℕ) → place < length plan →
      length (orders_at jobs place) ≡ length (group_at plan place).additions

abbrev pub dying_keys : SiteGroup → List OwnerKey
dying_keys x = x.dying.items

abbrev pub line_bytes : SiteGroup → List ℕ
line_bytes x = x.line.items

abbrev pub bytes_of_job : Job → List ℕ
bytes_of_job job = job.line.items

-- the keys of the packages that the removals of a group name
abbrev pub removed_keys : List Installed → List Group → Group → List OwnerKey
removed_keys ps plan g = map (λ r. key_of_id ps plan r.id) g.removals

-- what a site is opened for: the groups of the plan behind one that is never begun. With each go
-- the packages that its removals name
pub record AreSiteGroups (ps : List Installed) (plan : List Group) (jobs : List Job)
    (groups : List SiteGroup) : Type 0 where
  pub dying : map dying_keys groups ≡ [] ∷ map (removed_keys ps plan) plan
  pub lines : map line_bytes groups ≡ [] ∷ map bytes_of_job jobs
