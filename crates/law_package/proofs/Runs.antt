-- Groups that come more than once, and histories without groups.
use Rattle.std.proofs.Common.{◌≡◌, ◌∙◌, ℕ, List, [], ◌∷◌, Option, inl, inr, refl, ap, map, subst}
use Rattle.basics.specs.Members.{Has}
use Rattle.file_tree.specs.Disk.{Map}
use Rattle.file_tree.specs.ObjectValue.{ObjectValue}
use Rattle.file_tree.specs.declared.objects.Entry.{Entry}
use Rattle.merge_journal.specs.Group.{AreStaged, Group, applied, with_group, with_groups}
use Rattle.merge_journal.proofs.Changes.{again}
use Rattle.merge_site.specs.Staging.{placement_of}
use Rattle.merge_group.specs.Applied.{Recovers, number}
use Rattle.merge_group.specs.Working.{object_of}
use Rattle.merge_group.proofs.Granted.{none_there}

-- files as they are staged, each with its object
pub staged : (es : List Entry) → AreStaged (map placement_of es) (map object_of es)
staged [] = tt
staged (e ∷ es) = (record { object = e.object; there = refl; kind = refl; size = refl; digest = refl }, staged es)

-- a group that comes again changes nothing
pub many_as_one : (g : Group) (xs : List Group) (q : List ℕ) (y : Option ObjectValue) → AreStaged g.content.placements g.objects → ((x : Group) → Has xs x → x ≡ g) → with_groups xs q (with_group g q y) ≡ with_group g q y
many_as_one g [] q y staged all = refl
many_as_one g (x ∷ xs) q y staged all =
    ap (λ (h : Group). with_groups xs q (with_group h q (with_group g q y))) (all x (inl refl))
    ∙ (ap (λ (z : Option ObjectValue). with_groups xs q z) (again g q y staged) ∙ many_as_one g xs q y staged (λ z has. all z (inr has)))

-- a history is empty where no group was applied
pub none_told : (Of : Group → Type 0) (m : Map) (history : List ℕ) (c : Map) (r : Recovers Of m history c) → r.groups ≡ [] → history ≡ []
none_told Of m history c r none = none_there history (λ k has. subst (λ (l : List Group). Has (map number l) k) none (r.has k has))
