-- What the laws say of refusals.
use Rattle.std.specs.Prelude.{◌≡◌, ◌≤◌, Bool, List}
use Rattle.merge_record.specs.declared.record.OwnerKey.{OwnerKey}
use Rattle.owner_book.specs.declared.fault.ClaimFault.{ClaimFault}
use Rattle.owner_book.specs.declared.fault.ClaimFault.TheVariants as faults
use Rattle.owner_book.specs.declared.limits.TheConstants.{MOST_PATHS}
use Rattle.owner_book.specs.declared.wish.Wish.{Wish}
use Rattle.owner_book.specs.Book.{AreDisjoint, Book, path_count}
use Rattle.owner_book.specs.Whole.{AreFree, IsRefused}

-- but for want of memory a claim is refused for one reason at most, where claims are apart
abbrev pub OneRefusal : Type 0
OneRefusal = (b : Book) (dying : OwnerKey → Bool) (ws : List Wish) (f g : ClaimFault) →
    AreDisjoint b → IsRefused b dying ws f → IsRefused b dying ws g →
    ¬ (f ≡ faults.Memory) → ¬ (g ≡ faults.Memory) → f ≡ g

-- a claim that is free, with no path too many, is refused for want of memory alone
abbrev pub FreeIsTaken : Type 0
FreeIsTaken = (b : Book) (dying : OwnerKey → Bool) (ws : List Wish) (f : ClaimFault) →
    AreFree b dying ws → path_count b ws ≤ MOST_PATHS → IsRefused b dying ws f →
    f ≡ faults.Memory
