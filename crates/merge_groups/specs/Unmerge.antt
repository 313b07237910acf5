-- Packages that go and nothing that comes, as a plan of one group.
use Rattle.std.specs.Prelude.{◌≡◌, List, [], map}
use Rattle.pkg_state.specs.Package.{Package}
use Rattle.plan_text.specs.Plans.{GroupValue}
use Rattle.merge_groups.specs.Order.{AreInTextOrder, removal_of}
use Rattle.merge_groups.specs.Single.{groups_of}
use Rattle.merge_groups.specs.declared.change.Change.TheVariants as changes

-- just these packages go, in the order of the text of a plan
pub record IsUnmerge (packages : List Package) (groups : List GroupValue) : Type 0 where
  pub going : List Package
  pub leave : AreInTextOrder changes.Removal packages going
  pub is : groups ≡ groups_of (map removal_of going) []
