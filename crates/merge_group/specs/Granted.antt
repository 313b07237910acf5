-- When a group may be merged.
use Rattle.std.specs.Prelude.{◌≡◌, ◌++◌, ℕ, Bool, true, false, List, None, map}
use Rattle.std.specs.List.{AllByRecursion, flat_map}
use Rattle.file_tree.specs.Disk.{Map}
use Rattle.file_tree.specs.Paths.{is_below}
use Rattle.file_tree.specs.declared.objects.Entry.{Entry}
use Rattle.merge_fit.specs.Misfits.{AreGood}
use Rattle.merge_journal.specs.Group.{Group}
use Rattle.file_tree.specs.Fixed.{jobs}
use Rattle.merge_record.specs.declared.record.OwnerKey.{OwnerKey}
use Rattle.owner_book.specs.Book.{Book, HasOwnersOf, claim_in, owner_in}
use Rattle.owner_book.specs.declared.wish.Wish.{Wish}
use Rattle.merge_site.specs.Booking.{dying_at, wish_for, wishes_at}
use Rattle.merge_site.specs.Claiming.{IsClearFor, MayClaim}
use Rattle.merge_site.specs.Site.{SiteValue}
use Rattle.merge_site.specs.declared.group.SiteGroup.{SiteGroup}
use Rattle.merge_group.specs.Working.{Changes, IsAlone, all_of, changing, group_in}
use Rattle.merge_group.specs.declared.files.Files.{Files}

-- the wishes for the paths of some files
abbrev pub wishes_for : OwnerKey → Bool → List Entry → List Wish
wishes_for owner folder files = map (wish_for owner folder) files

-- what a package wishes: its image's paths, then those in its own folder
abbrev pub wishes_in : Files → List Wish
wishes_in files = wishes_for files.owner false files.image.items ++
    wishes_for files.owner true files.folder.items

-- what some packages wish, package by package
abbrev pub wishes_of : List Files → List Wish
wishes_of packages = flat_map wishes_in packages

-- the changes of a group that removes these paths and brings these packages
abbrev pub changes_in : List (List ℕ) → List Files → Changes
changes_in removals packages =
    record { removals = removals; files = all_of packages; wishes = wishes_of packages }

-- a book with the owners of the opened one, and no claim
pub record IsUnclaimed (opened book : Book) : Type 0 where
  pub owners : HasOwnersOf opened book
  pub claims : (g : ℕ) → claim_in book.claims g ≡ None

-- outside the journal the map holds what the opening holds
abbrev pub IsOutside : Map → Map → Type 0
IsOutside opening m = (q : List ℕ) → is_below jobs q ≡ false → m q ≡ opening q

-- the claim of a group with these changes is granted over a map and the owners of a book: its files
-- may be placed, the book takes their paths and lets the removed ones go, and nothing that nobody
-- owns was in their way
pub record MayChange (opening : Map) (opened : Book) (groups : List SiteGroup) (c : Changes)
    (g : ℕ) : Type 0 where
  pub good : AreGood c.files
  pub book : Book
  pub unclaimed : IsUnclaimed opened book
  pub granted : MayClaim book (dying_at groups g) c.wishes c.removals
  pub tree : Map
  pub outside : IsOutside opening tree
  pub clear : AllByRecursion (IsClearFor tree (owner_in book.owned)) c.wishes

-- the group makes just these changes, and may be merged
abbrev pub IsAdmitted : Map → Book → List SiteGroup → Changes → ℕ → Group → Type 0
IsAdmitted opening opened groups c g x =
    (x ≡ changing g c) × MayChange opening opened groups c g

-- a group of a site has put its record of these changes and all that it wishes, its files may be
-- placed, and no other group is under way
pub record HasBuilt {T S : Type 0} (c : Changes) (g : ℕ) (a : SiteValue T S) : Type 0 where
  pub changed : group_in a g ≡ changing g c
  pub wished : wishes_at a.wishes g ≡ c.wishes
  pub good : AreGood c.files
  pub alone : IsAlone g a
