-- What settling a claim does to the owners.
use Rattle.std.specs.Prelude.{ℕ, Bool, List, [], ◌∷◌, Option}
use Rattle.file_tree.specs.Disk.{Map}
use Rattle.merge_record.specs.declared.record.OwnerKey.{OwnerKey}
use Rattle.owner_book.specs.Book.{settled_owner}
use Rattle.owner_book.specs.declared.wish.Wish.{Wish}
use Rattle.merge_journal.specs.Group.{applied}
use Rattle.vdb_law.specs.Database.{IsDatabase, IsKept}
use Rattle.vdb_law.specs.Packages.{Installed}
use Rattle.vdb_law.specs.Step.{Change, IsAfter}
use Rattle.law_commit.specs.Claims.{MayCome}
use Rattle.law_claim.specs.Granted.{AreOnce}
use Rattle.law_claim.specs.Owners.{OwnersAre, Tells}

-- the owner of a path once the claim of a group with these wishes is settled
abbrev pub owner_after : Change → List Wish → (List ℕ → Option OwnerKey) → List ℕ → Option OwnerKey
owner_after c ws own q =
    settled_owner (record { placed = ws; removed = c.does.content.removals }) q (own q)

-- Owners that are a map's packages are those of the map after a group, once its claim is settled.
abbrev pub SettledOwnersAre : Type 0
SettledOwnersAre =
    (key : Installed → OwnerKey) (m : Map) (ps qs : List Installed) (c : Change)
    (dying : OwnerKey → Bool) (ws : List Wish) (own : List ℕ → Option OwnerKey) →
    IsDatabase m ps → IsKept m ps → OwnersAre key m ps own → Tells key m ps c dying ws →
    MayCome m ps c → AreOnce ws → IsAfter ps c.gone c.added qs →
    OwnersAre key (applied m (c.does ∷ [])) qs (owner_after c ws own)
