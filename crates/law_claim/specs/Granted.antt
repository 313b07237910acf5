-- When the book takes a claim, the claim is a good one.
use Rattle.std.specs.Prelude.{◌≡◌, ℕ, Bool, true, false, List, Some}
use Rattle.basics.specs.Members.{Has}
use Rattle.file_tree.specs.Disk.{Map}
use Rattle.merge_record.specs.declared.record.OwnerKey.{OwnerKey}
use Rattle.owner_book.specs.Book.{Book, claim_in, owner_in}
use Rattle.owner_book.specs.Removing.{AreRemovable}
use Rattle.owner_book.specs.Whole.{AreFree}
use Rattle.owner_book.specs.declared.wish.Wish.{Wish}
use Rattle.vdb_law.specs.Database.{IsDatabase}
use Rattle.vdb_law.specs.Packages.{Installed}
use Rattle.vdb_law.specs.Step.{Change}
use Rattle.law_commit.specs.Claims.{AreBeside, MayCome}
use Rattle.law_claim.specs.Owners.{OwnersAre, Tells, Wishes}

-- the book takes what the group wishes and removes
pub record IsTaken (b : Book) (dying : OwnerKey → Bool) (c : Change) (ws : List Wish) : Type 0 where
  pub removable : AreRemovable b dying c.does.content.removals
  pub free : AreFree b dying ws

-- no package leaves with both changes, and neither takes away what the other brings
pub record AreOnOtherLines (ps : List Installed) (c d : Change) : Type 0 where
  pub leaves : (p : Installed) → Has ps p → c.gone p ≡ true → ¬ (d.gone p ≡ true)
  pub first_stays : (p : Installed) → Has c.added p → d.gone p ≡ false
  pub second_stays : (p : Installed) → Has d.added p → c.gone p ≡ false

-- the book has the claim of a group that wishes what this change brings, and removes what it does
pub record IsClaimOf (key : Installed → OwnerKey) (b : Book) (h : ℕ) (d : Change)
    (ws : List Wish) : Type 0 where
  pub claimed : claim_in b.claims h ≡
      Some (record { placed = ws; removed = d.does.content.removals })
  pub wishes : Wishes key d ws

-- no two wishes are for one path
abbrev pub AreOnce : List Wish → Type 0
AreOnce ws = (w v : Wish) → Has ws w → Has ws v → w.path ≡ v.path → w ≡ v

-- Over a map with a database whose packages the book's owners are, a claim that the book takes is a
-- good one: the change may come, and has nothing to do with a change on other lines that the book
-- has the claim of.
abbrev pub GrantedClaimsAreGood : Type 0
GrantedClaimsAreGood =
    (key : Installed → OwnerKey) (b : Book) (m : Map) (ps : List Installed) (c : Change)
    (dying : OwnerKey → Bool) (ws : List Wish) →
    IsDatabase m ps → OwnersAre key m ps (owner_in b.owned) → Tells key m ps c dying ws →
    IsTaken b dying c ws →
    MayCome m ps c
    × AreOnce ws
    × ((h : ℕ) (d : Change) (vs : List Wish) → IsClaimOf key b h d vs → AreOnOtherLines ps c d →
    AreBeside ps c d)
