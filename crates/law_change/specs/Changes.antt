-- A group that brings any number of packages and takes away any number, and what it leaves.
use Rattle.std.specs.Prelude.{◌≡◌, ℕ, Bool, List, [], ◌∷◌, Option, map}
use Rattle.basics.specs.Members.{AreDistinct, Has}
use Rattle.file_tree.specs.Disk.{Map}
use Rattle.merge_journal.specs.Group.{applied}
use Rattle.merge_record.specs.declared.record.OwnerKey.{OwnerKey}
use Rattle.merge_site.specs.Booking.{dying_at}
use Rattle.merge_site.specs.declared.group.SiteGroup.{SiteGroup}
use Rattle.owner_book.specs.Book.{Book, owner_in}
use Rattle.owner_book.specs.Rules.{is_dying}
use Rattle.owner_book.specs.declared.wish.Wish.{Wish}
use Rattle.vdb_law.specs.Database.{IsDatabase, IsKept}
use Rattle.vdb_law.specs.Packages.{Installed}
use Rattle.vdb_law.specs.Step.{Change, IsAfter}
use Rattle.law_commit.specs.Claims.{MayCome}
use Rattle.law_claim.specs.Owners.{OwnersAre, Tells}
use Rattle.law_claim.specs.Settled.{owner_after}
use Rattle.merge_group.specs.Granted.{MayChange, changes_in, wishes_of}
use Rattle.merge_group.specs.Working.{Changes, changing}
use Rattle.merge_group.specs.declared.files.Files.{Files}
use Rattle.law_change.specs.Packages.{AreFilesOfEach, AreKeysOfEach, IsRemovalOf}

-- which packages go and which come, the files of each that comes, and the paths that are removed
pub record Exchange : Type 0 where
  pub gone : Installed → Bool
  pub added : List Installed
  pub packages : List Files
  pub removals : List (List ℕ)

-- what a group with this exchange changes
abbrev pub changes_by : Exchange → Changes
changes_by x = changes_in x.removals x.packages

-- the change that the group with this number and this exchange makes
abbrev pub change_by : ℕ → Exchange → Change
change_by n x = record { gone = x.gone; added = x.added; does = changing n (changes_by x) }

-- the files are those of the packages that come, under their keys, which differ; the removed paths
-- are those that the packages that go own and none that comes places; those that go have the dying
-- keys
pub record IsExchange (key : Installed → OwnerKey) (m : Map) (ps : List Installed)
    (dying : OwnerKey → Bool) (x : Exchange) : Type 0 where
  pub files : AreFilesOfEach x.packages x.added
  pub keys : AreKeysOfEach key x.packages x.added
  pub apart : AreDistinct (map key x.added)
  pub removes : IsRemovalOf m ps x.gone x.packages x.removals
  pub dies : (p : Installed) → Has ps p → dying (key p) ≡ x.gone p

-- a kept tree with these packages, which are the owners in the book
pub record IsOwnedTree (key : Installed → OwnerKey) (m : Map) (ps : List Installed)
    (own : List ℕ → Option OwnerKey) : Type 0 where
  pub database : IsDatabase m ps
  pub kept : IsKept m ps
  pub owners : OwnersAre key m ps own

-- the change may be made, and leaves a kept tree with the packages after it, which are the owners
-- once the claim of its group is settled
pub record LeavesOwnedTree (key : Installed → OwnerKey) (m : Map) (ps : List Installed)
    (own : List ℕ → Option OwnerKey) (c : Change) (ws : List Wish) : Type 0 where
  pub comes : MayCome m ps c
  pub packages : List Installed
  pub after : IsAfter ps c.gone c.added packages
  pub tree : IsOwnedTree key (applied m (c.does ∷ [])) packages (owner_after c ws own)

-- A group with an exchange, whose claim is granted, wishes, removes and puts what its change says.
abbrev pub GrantedExchangesAreTold : Type 0
GrantedExchangesAreTold =
    (key : Installed → OwnerKey) (m : Map) (ps : List Installed) (book : Book)
    (groups : List SiteGroup) (n : ℕ) (x : Exchange) →
    IsExchange key m ps (is_dying (dying_at groups n)) x →
    MayChange m book groups (changes_by x) n →
    Tells key m ps (change_by n x) (is_dying (dying_at groups n)) (wishes_of x.packages)

-- Over a kept tree whose packages are the book's owners it leaves such a tree again.
abbrev pub GrantedExchangesLeaveOwnedTrees : Type 0
GrantedExchangesLeaveOwnedTrees =
    (key : Installed → OwnerKey) (m : Map) (ps : List Installed) (book : Book)
    (groups : List SiteGroup) (n : ℕ) (x : Exchange) →
    IsOwnedTree key m ps (owner_in book.owned) →
    IsExchange key m ps (is_dying (dying_at groups n)) x →
    MayChange m book groups (changes_by x) n →
    LeavesOwnedTree key m ps (owner_in book.owned) (change_by n x) (wishes_of x.packages)
