-- Why the run of a group was stopped.
use Rattle.std.specs.Prelude.{◌≡◌, ◌<◌, ◌++◌, ℕ, Bool, true, false, List, length, ⊤}
use Rattle.std.specs.Prelude.{IsTrue}
use Rattle.file_tree.specs.Disk.{Map}
use Rattle.file_tree.specs.declared.objects.Entry.{Entry}
use Rattle.merge_fit.specs.Misfits.{IsFirstBad}
use Rattle.owner_book.specs.Book.{Book, owner_in}
use Rattle.merge_record.specs.Spelling.{PassesLimit}
use Rattle.merge_record.specs.declared.limits.TheConstants.{MOST_GROUP_PATHS}
use Rattle.merge_site.specs.Booking.{dying_at}
use Rattle.merge_site.specs.Claiming.{Stops, StopsAt}
use Rattle.merge_site.specs.declared.fault.ClaimStop.{ClaimStop}
use Rattle.merge_site.specs.declared.fault.ClaimStop.TheVariants as claims
use Rattle.merge_site.specs.declared.group.SiteGroup.{SiteGroup}
use Rattle.merge_group.specs.Granted.{IsOutside, IsUnclaimed}
use Rattle.merge_group.specs.Working.{Changes, changing}
use Rattle.merge_group.specs.declared.stop.Stop.{Stop}
use Rattle.merge_group.specs.declared.stop.Stop.TheVariants as stops

-- a stop that says nothing of the group
abbrev pub IsPlain : Stop → Type 0
IsPlain (stops.Tree of) = ⊤
IsPlain e = ⊥

-- the record of the group that makes these changes passes a limit
abbrev pub IsTooMuch : ℕ → Changes → Type 0
IsTooMuch g c = PassesLimit (changing g c).content

-- how staging these files behind others is stopped: by the first whose object may not be placed,
-- or by more files than a record has
abbrev pub StopsStages : List Entry → List Entry → Stop → Type 0
StopsStages before files (stops.Image b) = IsFirstBad files b
StopsStages before files stops.Limit = MOST_GROUP_PATHS < length (before ++ files)
StopsStages before files e = IsPlain e

-- how the record of the group that makes these changes is stopped
abbrev pub StopsRecord : ℕ → Changes → Stop → Type 0
StopsRecord g c stops.Limit = IsTooMuch g c
StopsRecord g c e = IsPlain e

-- a stop that is no fault of the tree
abbrev pub is_refusal : ClaimStop → Bool
is_refusal (claims.Tree of) = false
is_refusal s = true

-- the claim of a group with these changes is refused so, by the book from before the run, and by
-- what stands in the tree from before it
pub record IsRefusalOf (tells : Bool) (opening : Map) (opened : Book) (groups : List SiteGroup)
    (c : Changes) (g : ℕ) (s : ClaimStop) : Type 0 where
  pub refusal : is_refusal s ≡ true
  pub book : Book
  pub unclaimed : IsUnclaimed opened book
  pub refuses : Stops book (dying_at groups g) c.wishes c.removals s
  pub met : IsTrue tells → (m : Map) × IsOutside opening m ×
      StopsAt m (owner_in book.owned) c.wishes s

-- a stop for what the group has: an object, its record, or its claim
abbrev pub IsOfGroup : Stop → Type 0
IsOfGroup (stops.Image b) = ⊤
IsOfGroup (stops.Claim s) = ⊤
IsOfGroup stops.Limit = ⊤
IsOfGroup e = ⊥

-- why the run of a group with these changes ended
abbrev pub StopsChanges : Bool → Map → Book → List SiteGroup → Changes → ℕ → Stop → Type 0
StopsChanges tells opening opened groups c g (stops.Image b) = IsFirstBad c.files b
StopsChanges tells opening opened groups c g (stops.Claim s) =
    IsRefusalOf tells opening opened groups c g s
StopsChanges tells opening opened groups c g stops.Limit = IsTooMuch g c
StopsChanges tells opening opened groups c g e = ⊤
