-- When a group's claim is granted, and why it isn't.
use Rattle.std.specs.Prelude.{◌≡◌, ◌≤◌, ◌||◌, ◌++◌, ℕ, Bool, true, false, List, [], Option, is_some, map, ⊤}
use Rattle.std.specs.List.{AllByRecursion}
use Rattle.file_tree.specs.Disk.{Map}
use Rattle.file_tree.specs.declared.fault.TreeFault.TheVariants as trees
use Rattle.merge_fit.specs.Images.{IsClear, IsFirst, IsFirstBlock}
use Rattle.merge_journal.specs.Judging.{are_free}
use Rattle.merge_record.specs.declared.record.OwnerKey.{OwnerKey}
use Rattle.owner_book.specs.Book.{Book, owner_in, path_count, path_of}
use Rattle.owner_book.specs.Removing.{AreRemovable, IsFirstKept}
use Rattle.owner_book.specs.Rules.{is_dying}
use Rattle.owner_book.specs.Whole.{AreFree, IsRefused}
use Rattle.owner_book.specs.declared.fault.ClaimFault.TheVariants as claims
use Rattle.owner_book.specs.declared.fault.Collision.TheVariants as collisions
use Rattle.owner_book.specs.declared.limits.TheConstants.{MOST_PATHS}
use Rattle.owner_book.specs.declared.wish.Wish.{Wish}
use Rattle.merge_core.specs.Core.{standing_in}
use Rattle.merge_site.specs.Booking.{dying_at, wishes_at}
use Rattle.merge_site.specs.Site.{SiteValue}
use Rattle.merge_site.specs.declared.fault.ClaimStop.{ClaimStop}
use Rattle.merge_site.specs.declared.fault.ClaimStop.TheVariants as stops

-- a file of the package's own folder, or a path that a package owns, may hold an object already
abbrev pub may_hold : (List ℕ → Option OwnerKey) → Wish → Bool
may_hold own w = w.folder || is_some (own w.path)

-- nothing that nobody owns is in the way of the wish
abbrev pub IsClearFor : Map → (List ℕ → Option OwnerKey) → Wish → Type 0
IsClearFor m own w = IsClear m (may_hold own w) w.path

-- the first wish with something in its way, and the shortest path that is
abbrev pub IsFirstMet : Map → (List ℕ → Option OwnerKey) → List Wish → List ℕ → Type 0
IsFirstMet m own ws q =
    IsFirst (IsClearFor m own) (λ w. IsFirstBlock m (may_hold own w) w.path q) ws

-- the book takes the claim: the removed paths may go, the placed ones are free, and not too many
pub record IsTakenIn (b : Book) (dying : List OwnerKey) (wishes : List Wish)
    (removals : List (List ℕ)) : Type 0 where
  pub removable : AreRemovable b (is_dying dying) removals
  pub free : AreFree b (is_dying dying) wishes
  pub small : path_count b wishes ≤ MOST_PATHS

-- the paths that a record with these removals and wishes has
abbrev pub record_paths : List (List ℕ) → List Wish → List (List ℕ)
record_paths removals wishes = removals ++ map path_of wishes

-- the claim is taken, and the paths are different and outside the journal
pub record MayClaim (b : Book) (dying : List OwnerKey) (wishes : List Wish)
    (removals : List (List ℕ)) : Type 0 where
  pub taken : IsTakenIn b dying wishes removals
  pub apart : are_free [] (record_paths removals wishes) ≡ true

-- why the book or the record's paths stop a claim; what stands in the tree and a failed device do
-- so only where these don't
abbrev pub Stops : Book → List OwnerKey → List Wish → List (List ℕ) → ClaimStop → Type 0
Stops b dying ws rs (stops.Removal p) = IsFirstKept b (is_dying dying) rs p
Stops b dying ws rs (stops.Image x) =
    AreRemovable b (is_dying dying) rs × IsRefused b (is_dying dying) ws (claims.Image x)
Stops b dying ws rs (stops.Collision (collisions.Unowned p)) = MayClaim b dying ws rs
Stops b dying ws rs (stops.Collision c) =
    AreRemovable b (is_dying dying) rs × IsRefused b (is_dying dying) ws (claims.Collision c)
Stops b dying ws rs stops.Limit =
    AreRemovable b (is_dying dying) rs × IsRefused b (is_dying dying) ws claims.Limit
Stops b dying ws rs stops.Overlap =
    IsTakenIn b dying ws rs × (are_free [] (record_paths rs ws) ≡ false)
Stops b dying ws rs (stops.Tree trees.Failed) = MayClaim b dying ws rs
Stops b dying ws rs (stops.Tree trees.Memory) = ⊤

-- what stands in the tree stops a claim
abbrev pub StopsAt : Map → (List ℕ → Option OwnerKey) → List Wish → ClaimStop → Type 0
StopsAt m own ws (stops.Collision (collisions.Unowned p)) = IsFirstMet m own ws p
StopsAt m own ws s = ⊤

-- the removals of a group's record
abbrev pub removals_at : {T S : Type 0} → SiteValue T S → ℕ → List (List ℕ)
removals_at a g = (standing_in a.keeping.standings g).removals

-- the rules of a group's claim
abbrev pub IsGranted : {T S : Type 0} → SiteValue T S → ℕ → Type 0
IsGranted a g = MayClaim a.book (dying_at a.groups g) (wishes_at a.wishes g) (removals_at a g)

abbrev pub AreClear : {T S : Type 0} → Map → SiteValue T S → ℕ → Type 0
AreClear m a g = AllByRecursion (IsClearFor m (owner_in a.book.owned)) (wishes_at a.wishes g)

abbrev pub IsStop : {T S : Type 0} → SiteValue T S → ℕ → ClaimStop → Type 0
IsStop a g s = Stops a.book (dying_at a.groups g) (wishes_at a.wishes g) (removals_at a g) s

abbrev pub IsUnownedStop : {T S : Type 0} → Map → SiteValue T S → ℕ → ClaimStop → Type 0
IsUnownedStop m a g s = StopsAt m (owner_in a.book.owned) (wishes_at a.wishes g) s
