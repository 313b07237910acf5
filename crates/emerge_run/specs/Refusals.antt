-- The status that each inner fault becomes.
use Rattle.std.specs.Prelude.{◌≡◌, ◌⊎◌, ℕ, List, [], Result, Ok, Err, ⊤}
use Rattle.dep_atom.specs.declared.package.PackageId.{PackageId}
use Rattle.file_tree.specs.declared.limits.Quantity.TheVariants.{Groups, Paths, RecordBytes}
use Rattle.merge_site.specs.declared.fault.ClaimStop.{ClaimStop}
use Rattle.merge_site.specs.declared.fault.ClaimStop.TheVariants as claims
use Rattle.merge_group.specs.declared.stop.Stop.{Stop}
use Rattle.merge_group.specs.declared.stop.Stop.TheVariants as stops
use Rattle.vdb_law.specs.Packages.{Installed}
use Rattle.run_opening.specs.declared.fault.OpeningFault.{OpeningFault}
use Rattle.run_opening.specs.declared.fault.OpeningFault.TheVariants as openings
use Rattle.emerge_find.specs.declared.ends.NoPlan.{NoPlan}
use Rattle.emerge_find.specs.declared.ends.NoPlan.TheVariants as ends
use Rattle.run_plan.specs.declared.stop.PlanStop.{PlanStop}
use Rattle.run_plan.specs.declared.stop.PlanStop.TheVariants as plans
use Rattle.merge_report.specs.Faults.{status_of_database, status_of_offers, status_of_tree}
use Rattle.merge_report.specs.declared.status.Part.TheVariants.{Result as PlanResult}
use Rattle.merge_report.specs.declared.status.Status.{Status}
use Rattle.merge_report.specs.declared.status.Status.TheVariants as status
use Rattle.emerge_run.specs.Collisions.{status_of_collision}

-- why no run begins with what is installed
abbrev pub status_of_opening : OpeningFault → Status
status_of_opening (openings.Database fault) = status_of_database fault
status_of_opening (openings.Inconsistent fault packages) = status.Inconsistent fault

-- why there is no plan
abbrev pub status_of : NoPlan → Status
status_of (ends.Offers fault) = status_of_offers fault
status_of (ends.Opening fault) = status_of_opening fault
status_of (ends.Text path line) = status.BadText path line
status_of ends.Limit = status.Limit Groups
status_of (ends.NoCandidate atom reasons packages) = status.NoCandidate atom reasons
status_of (ends.NoSolution dead packages) = status.NoSolution dead
status_of (ends.BacktrackLimit refuted dead packages) = status.BacktrackLimit refuted dead
status_of (ends.Refused fault packages) = status.PlanRefused fault
status_of (ends.BuildCycle cycle packages) = status.BuildCycle cycle
status_of (ends.NoOrder fault packages) = status.NoOrder fault
status_of (ends.NotPlanned packages) = status.NotBuilt PlanResult
status_of (ends.Tree fault) = status_of_tree fault

-- the installed packages that come with the fault of what is installed
abbrev pub packages_beside : OpeningFault → List Installed
packages_beside (openings.Database fault) = []
packages_beside (openings.Inconsistent fault packages) = packages.items

-- those that come with the lack of a plan
abbrev pub packages_with : NoPlan → List Installed
packages_with (ends.Opening fault) = packages_beside fault
packages_with (ends.NoCandidate atom reasons packages) = packages.items
packages_with (ends.NoSolution dead packages) = packages.items
packages_with (ends.BacktrackLimit refuted dead packages) = packages.items
packages_with (ends.Refused fault packages) = packages.items
packages_with (ends.BuildCycle cycle packages) = packages.items
packages_with (ends.NoOrder fault packages) = packages.items
packages_with (ends.NotPlanned packages) = packages.items
packages_with e = []

-- what the claim of a group is stopped for; that its paths overlap, or that it removes what nobody
-- owns, says nothing: a tree that tells stops none so. A fault of the tree stops the merge and no
-- claim.
abbrev pub status_of_claim : List PackageId → ClaimStop → Status
status_of_claim ids (claims.Collision c) = status_of_collision ids c
status_of_claim ids (claims.Image b) = status.BadImage b
status_of_claim ids claims.Limit = status.Limit Paths
status_of_claim ids s = status.Memory

abbrev pub status_of_stop : List PackageId → Stop → Status
status_of_stop ids stops.Output = status.OutputFault
status_of_stop ids (stops.Image b) = status.BadImage b
status_of_stop ids (stops.Claim s) = status_of_claim ids s
status_of_stop ids stops.Limit = status.Limit RecordBytes
status_of_stop ids (stops.Tree fault) = status_of_tree fault

abbrev pub status_of_plan_stop : List PackageId → PlanStop → Status
status_of_plan_stop ids (plans.Merge s) = status_of_stop ids s
status_of_plan_stop ids (plans.Build id) = status.BuildFailed id
status_of_plan_stop ids (plans.Image id) = status.Limit Paths

-- how the merge of so many groups ended, where these packages own paths
abbrev pub status_of_end : List PackageId → ℕ → Result ⊤ PlanStop → Status
status_of_end ids n (Ok x) = status.Ok n
status_of_end ids n (Err s) = status_of_plan_stop ids s

-- the claim, or the merge, is stopped for a collision
abbrev pub Collides : ClaimStop → Type 0
Collides (claims.Collision c) = ⊤
Collides s = ⊥

abbrev pub CollidesAt : Stop → Type 0
CollidesAt (stops.Claim s) = Collides s
CollidesAt s = ⊥

abbrev pub CollidesIn : PlanStop → Type 0
CollidesIn (plans.Merge s) = CollidesAt s
CollidesIn s = ⊥

abbrev pub EndsAtCollision : Result ⊤ PlanStop → Type 0
EndsAtCollision (Ok x) = ⊥
EndsAtCollision (Err s) = CollidesIn s

-- it is this status, or there was no memory for the name of the package that a collision tells
abbrev pub IsOrNameless : Status → Type 0 → Status → Type 0
IsOrNameless this Collision s = (s ≡ this) ⊎ ((s ≡ status.Memory) × Collision)

-- the status of so many groups' merge that ended so, where these packages own paths
abbrev pub IsStatusOf : List PackageId → ℕ → Result ⊤ PlanStop → Status → Type 0
IsStatusOf ids n end s = IsOrNameless (status_of_end ids n end) (EndsAtCollision end) s
