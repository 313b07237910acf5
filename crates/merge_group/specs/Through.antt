-- A site on its way through the turns of a run.
use Rattle.file_tree.specs.declared.fault.TreeFault.TheVariants as trees
use Rattle.std.specs.Prelude.{◌≡◌, ◌+◌, ◌≤◌, ℕ, Bool, true, false, List, [], ◌∷◌, map}
use Rattle.std.specs.Prelude.{IsErrOf, IsTrue, Result, Vec, vec_capacity, vec_len}
use Rattle.std.specs.Global.{Global}
use Rattle.basics.specs.Members.{Has}
use Rattle.file_tree.specs.Disk.{Map}
use Rattle.owner_book.specs.Book.{Book, HasOwnersOf}
use Rattle.merge_core.specs.CoreValue.{machine_of}
use Rattle.merge_core.specs.Phase.{Told}
use Rattle.merge_core.specs.Roll.{RecoversCommitted, idle, resting}
use Rattle.merge_site.specs.Booking.{wishes_at}
use Rattle.merge_site.specs.Site.{SiteValue, StoodDuring}
use Rattle.merge_group.specs.Applied.{RecoversWith, number}
use Rattle.merge_group.specs.Turns.{AreFirst, AreLetIn, changes_of, group_for, numbers, settled}
use Rattle.merge_group.specs.Working.{IsRun, is_shut, standing_at}
use Rattle.merge_group.specs.declared.stop.Stop.{Stop}
use Rattle.merge_group.specs.declared.stop.Stop.TheVariants as stops
use Rattle.merge_group.specs.declared.turn.Turn.{Turn}

-- the list has room for so many more
abbrev pub HasRoom : ℕ → Vec ℕ Global → Type 0
HasRoom n list = vec_len list + n ≤ vec_capacity list

-- the owners once the claims of these groups are settled, one after the other
abbrev pub settled_all : List Turn → Book → Book
settled_all [] b = b
settled_all (t ∷ ts) b = settled_all ts (settled (changes_of t) b)

-- each crash image since the opening recovers to it with the groups of some first turns applied
abbrev pub HasStood : {T S : Type 0} → Map → List Turn → SiteValue T S → Type 0
HasStood opening turns a = (c : Map) → StoodDuring opening idle a.events c →
    RecoversWith (AreFirst opening a.opened_book a.groups turns) opening [] c

-- just the groups of these turns are in the tree for good, in this order, each let in, owned and
-- told, and no other group has begun
pub record IsThrough {T S : Type 0} (tells : Bool) (opening : Map) (turns : List Turn)
    (a : SiteValue T S) : Type 0 where
  pub run : IsRun a
  pub going : a.keeping.stopped ≡ false
  pub order : a.keeping.order ≡ map group_for turns
  pub told : (h : ℕ) → Has (numbers turns) h → (standing_at a h).phase ≡ Told
  pub rest : (h : ℕ) → ¬ Has (numbers turns) h → standing_at a h ≡ resting
  pub unwished : (h : ℕ) → ¬ Has (numbers turns) h → wishes_at a.wishes h ≡ []
  pub owners : HasOwnersOf (settled_all turns a.opened_book) a.book
  pub let_in : IsTrue tells → AreLetIn opening a.opened_book a.groups turns
  pub stood : IsTrue tells → HasStood opening turns a

-- a run of these turns ended so: a crash leaves some first ones, with the order among them, and the
-- order is some first ones, which no gate is open over unless the device failed
pub record HasEnded {A T S : Type 0} (tells : Bool) (opening : Map) (turns : List Turn)
    (a : SiteValue T S) (end : Result A Stop) : Type 0 where
  pub stood : IsTrue tells → HasStood opening turns a
  pub crash : IsTrue tells → (c : Map) → RecoversCommitted opening (machine_of a.keeping).roll c →
      RecoversWith (AreFirst opening a.opened_book a.groups turns) opening
      (map number a.keeping.order) c
  pub order : IsTrue tells → AreFirst opening a.opened_book a.groups turns a.keeping.order
  pub shut : ¬ IsErrOf end (stops.Tree trees.Failed) → (h : ℕ) →
      is_shut (standing_at a h).phase ≡ true
