-- What holds of a book while claims are taken, settled and released.
use Rattle.std.specs.Prelude.{◌≡◌, ℕ, Bool, true, false, List, [], Some, None, IsSome}
use Rattle.merge_record.specs.declared.record.OwnerKey.{OwnerKey}
use Rattle.owner_book.specs.Book.{AreDisjoint, Book, ChangesClaim, HasOwnersOf, HasSettled, IsClaimedBy, IsTaken, ClaimValue, claim_in, is_wished, owner_in}
use Rattle.owner_book.specs.Near.{is_near}
use Rattle.owner_book.specs.Removing.{AreRemovable}
use Rattle.owner_book.specs.Whole.{AreFree}

-- a package that owns a path which a group claims goes with that group
abbrev pub OwnersGo : (dying : ℕ → OwnerKey → Bool) → Book → Type 0
OwnersGo dying b = (g : ℕ) (q : List ℕ) (k : OwnerKey) →
    IsClaimedBy b.claims q g → owner_in b.owned q ≡ Some k → dying g k ≡ true

-- no owned path is above or below another one
abbrev pub OwnedAreFlat : Book → Type 0
OwnedAreFlat b = (p q : List ℕ) →
    IsSome (owner_in b.owned p) → IsSome (owner_in b.owned q) → is_near p q ≡ false

-- no path that a claim places is above or below one that is owned or claimed
abbrev pub PlacedAreFlat : Book → Type 0
PlacedAreFlat b = (g : ℕ) (c : ClaimValue) (p q : List ℕ) → claim_in b.claims g ≡ Some c →
    is_wished c.placed p ≡ true → IsTaken b [] q → is_near p q ≡ false

-- no path is in two claims, an owner of a claimed path goes with its group, and no path that is
-- owned or to be placed is above or below another one
pub record IsTidyBook (dying : ℕ → OwnerKey → Bool) (b : Book) : Type 0 where
  pub disjoint : AreDisjoint b
  pub mine : OwnersGo dying b
  pub owned : OwnedAreFlat b
  pub placed : PlacedAreFlat b

-- A book without a claim whose owned paths are flat is tidy, and it stays so whatever claims are
-- taken that are free and may remove what they remove, settled or released.
pub record BooksStayTidy : Type 0 where
  pub begins : (dying : ℕ → OwnerKey → Bool) (b : Book) → ((g : ℕ) → claim_in b.claims g ≡ None) →
      OwnedAreFlat b → IsTidyBook dying b
  pub claimed : (dying : ℕ → OwnerKey → Bool) (old new : Book) (g : ℕ) (c : ClaimValue) →
      IsTidyBook dying old → AreFree old (dying g) c.placed → AreRemovable old (dying g) c.removed →
      HasOwnersOf old new → ChangesClaim old new g (Some c) → IsTidyBook dying new
  pub settled : (dying : ℕ → OwnerKey → Bool) (old new : Book) (g : ℕ) (c : ClaimValue) →
      IsTidyBook dying old → claim_in old.claims g ≡ Some c → HasSettled old new c →
      ChangesClaim old new g None → IsTidyBook dying new
  pub released : (dying : ℕ → OwnerKey → Bool) (old new : Book) (g : ℕ) →
      IsTidyBook dying old → HasOwnersOf old new → ChangesClaim old new g None →
      IsTidyBook dying new
