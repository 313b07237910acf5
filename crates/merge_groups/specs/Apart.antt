-- Changes of different lines.
use Rattle.std.specs.Prelude.{◌≡◌, ℕ, List, Some, IsSome, ◌⊎◌, ◌<◌, length}
use Rattle.pkg_state.specs.Package.{Package, line_of}
use Rattle.merge_edges.specs.Changes.{Change as LineChange}
use Rattle.merge_groups.specs.Grouped.{side_at}
use Rattle.merge_groups.specs.declared.change.Change.{Change}
use Rattle.merge_groups.specs.declared.change.Change.TheVariants as changes

-- no two of them take away, or bring, packages of one name and slot
abbrev pub AreChangesApart : List LineChange → Type 0
AreChangesApart cs =
    (side : Change) (x y : ℕ) (p q : Package) → side_at side cs x ≡ Some p →
    side_at side cs y ≡ Some q → line_of p.facts ≡ line_of q.facts → x ≡ y

-- each of them takes something away or brings something
abbrev pub AreSome : List LineChange → Type 0
AreSome cs = (x : ℕ) → x < length cs →
    IsSome (side_at changes.Removal cs x) ⊎ IsSome (side_at changes.Addition cs x)
