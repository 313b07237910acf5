-- Which paths a group may remove, and books as those of an index.
use Rattle.std.specs.Prelude.{◌≡◌, ◌&&◌, ℕ, Bool, true, false, not, List, Option, Some, None, is_some, slice_get, take}
use Rattle.merge_record.specs.declared.record.OwnerKey.{OwnerKey}
use Rattle.file_tree.specs.PathSets.{is_in}
use Rattle.owner_book.specs.declared.index.Slot.{Slot}
use Rattle.owner_book.specs.Book.{Book, IsClaimedBy, ClaimValue, owner_in}
use Rattle.owner_book.specs.Slots.{IndexValue}
use Rattle.owner_book.specs.Whole.{IsBook, book_of}

-- a package that goes owns the path, and no claim has it
pub record MayRemove (b : Book) (dying : OwnerKey → Bool) (q : List ℕ) : Type 0 where
  pub owner : OwnerKey
  pub owned : owner_in b.owned q ≡ Some owner
  pub dies : dying owner ≡ true
  pub unclaimed : (g : ℕ) → ¬ IsClaimedBy b.claims q g

-- each of these paths may be removed
abbrev pub AreRemovable : Book → (OwnerKey → Bool) → List (List ℕ) → Type 0
AreRemovable b dying paths = (q : List ℕ) → is_in paths q ≡ true → MayRemove b dying q

-- the first of these paths that may not be removed
pub record IsFirstKept (b : Book) (dying : OwnerKey → Bool) (paths : List (List ℕ))
    (p : List ℕ) : Type 0 where
  pub at : ℕ
  pub there : slice_get paths at ≡ Some p
  pub before : AreRemovable b dying (take at paths)
  pub kept : ¬ MayRemove b dying p

-- the owner, if there is one, goes
abbrev pub goes : (OwnerKey → Bool) → Option OwnerKey → Bool
goes dying None = false
goes dying (Some k) = dying k

-- what the slot of a path says of its removal
abbrev pub is_removable : (OwnerKey → Bool) → Option Slot → Bool
is_removable dying None = false
is_removable dying (Some s) = goes dying s.owner && not (is_some s.mark)

-- the book is that of an index and of claims that fit it
pub record IsIndexed (b : Book) : Type 0 where
  pub slots : IndexValue
  pub claims : List (ℕ × ClaimValue)
  pub fits : IsBook slots claims
  pub is : b ≡ book_of slots claims
