-- When an entry may be staged, and why it may not.
use Rattle.std.specs.Prelude.{◌≡◌, ◌<◌, ◌≤◌, ℕ, true, List, Some, length, slice_get}
use Rattle.file_tree.specs.declared.objects.Entry.{Entry}
use Rattle.merge_fit.specs.Images.{is_good}
use Rattle.merge_fit.specs.Misfits.{IsBad}
use Rattle.md5.specs.Md5.{md5}
use Rattle.merge_record.specs.declared.limits.TheConstants.{MOST_GROUP_PATHS}
use Rattle.merge_record.specs.declared.record.Placement.{Placement}
use Rattle.merge_core.specs.Core.{standing_in}
use Rattle.merge_core.specs.CoreValue.{CoreValue}
use Rattle.merge_site.specs.Site.{JobValue}
use Rattle.merge_site.specs.declared.fault.StageFault.{StageFault}
use Rattle.merge_site.specs.declared.fault.StageFault.TheVariants as faults

-- how a record tells an entry: its path, and the kind, the length and the digest of its object
abbrev pub placement_of : Entry → Placement
placement_of e = record {
  path = e.path;
  kind = e.object.kind;
  length = length e.object.bytes;
  md5 = md5 e.object.bytes;
}

-- how many objects a group has staged
abbrev pub staged_count : CoreValue → ℕ → ℕ
staged_count k g = length (standing_in k.standings g).objects

-- the object of the entry may be placed, and the group has room for one more
pub record MayStage (k : CoreValue) (g : ℕ) (e : Entry) : Type 0 where
  pub good : is_good e ≡ true
  pub room : staged_count k g < MOST_GROUP_PATHS

-- why an entry isn't staged: for its object, then for the number of those before it; a fault of
-- the tree comes only where it may be staged
abbrev pub IsStageFault : CoreValue → ℕ → Entry → StageFault → Type 0
IsStageFault k g e (faults.Image bad) = IsBad bad e
IsStageFault k g e faults.Limit = (is_good e ≡ true) × (MOST_GROUP_PATHS ≤ staged_count k g)
IsStageFault k g e (faults.Tree of) = MayStage k g e

-- the same groups, none with fewer paths for its stages
pub record HasMore (old new : List JobValue) : Type 0 where
  pub count : length new ≡ length old
  pub each : (i : ℕ) (q : JobValue) → slice_get new i ≡ Some q →
      (p : JobValue) × (slice_get old i ≡ Some p) × (q.group ≡ p.group) × (p.staged ≤ q.staged)

-- the paths of a group's stages go beyond this index
abbrev pub HasPast : List JobValue → ℕ → ℕ → Type 0
HasPast payloads g index = (p : JobValue) → slice_get payloads g ≡ Some p → index < p.staged
