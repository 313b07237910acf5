-- Groups that are merged one after another.
use Rattle.std.specs.Prelude.{◌≡◌, ◌++◌, ℕ, zero, suc, Bool, List, [], ◌∷◌, filter, map, not}
use Rattle.std.specs.Prelude.{⊤}
use Rattle.file_tree.specs.Disk.{Map}
use Rattle.file_tree.specs.declared.fault.TreeFault.TheVariants as trees
use Rattle.merge_journal.specs.Group.{Group, applied}
use Rattle.file_tree.specs.PathSets.{is_in}
use Rattle.owner_book.specs.Book.{Book}
use Rattle.merge_site.specs.declared.group.SiteGroup.{SiteGroup}
use Rattle.merge_group.specs.Causes.{IsOfGroup, StopsChanges}
use Rattle.merge_group.specs.Granted.{MayChange, changes_in}
use Rattle.merge_group.specs.Working.{Changes, changing}
use Rattle.merge_group.specs.declared.stop.Stop.{Stop}
use Rattle.merge_group.specs.declared.stop.Stop.TheVariants as stops
use Rattle.merge_group.specs.declared.turn.Turn.{Turn}

abbrev pub numbers : List Turn → List ℕ
numbers turns = map (λ t. t.group) turns

-- what a turn changes: its paths go, and all that its packages have comes
abbrev pub changes_of : Turn → Changes
changes_of t = changes_in t.removals.items t.packages.items

-- the group of a turn: it makes just these changes
abbrev pub group_for : Turn → Group
group_for t = changing t.group (changes_of t)

-- the owners once the claim of a group is settled: each path that comes has the one that it names,
-- and each that goes has none
abbrev pub settled : Changes → Book → Book
settled c b = record {
  owned = map (λ w. (w.path, w.owner)) c.wishes ++
      filter (λ o. not (is_in c.removals o.0)) b.owned;
  claims = [];
}

-- the claim of each group is granted, over the map and the owners that those before it left
abbrev pub AreLetIn : Map → Book → List SiteGroup → List Turn → Type 0
AreLetIn m b groups [] = ⊤
AreLetIn m b groups (t ∷ ts) =
    MayChange m b groups (changes_of t) t.group ×
    AreLetIn (applied m (group_for t ∷ [])) (settled (changes_of t) b) groups ts

-- these are the groups of the first turns, in their order, and the claim of each is granted
pub record AreFirst (m : Map) (b : Book) (groups : List SiteGroup) (turns : List Turn)
    (xs : List Group) : Type 0 where
  pub first : List Turn
  pub rest : List Turn
  pub split : turns ≡ first ++ rest
  pub are : xs ≡ map group_for first
  pub let_in : AreLetIn m b groups first

-- why a run ended behind the groups of its first n turns: the next group is stopped so, over the
-- map and the owners that those left
abbrev pub StopsBehind : Bool → Map → Book → List SiteGroup → List Turn → ℕ → Stop → Type 0
StopsBehind tells m b groups [] n e = ¬ IsOfGroup e
StopsBehind tells m b groups (t ∷ ts) zero e =
    StopsChanges tells m b groups (changes_of t) t.group e
StopsBehind tells m b groups (t ∷ ts) (suc n) e =
    StopsBehind tells (applied m (group_for t ∷ [])) (settled (changes_of t) b) groups ts n e
