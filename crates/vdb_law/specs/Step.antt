-- A group over a tree with a database: packages that leave, and packages that come.
use Rattle.std.specs.Prelude.{◌≡◌, ◌⊎◌, ◌↔◌, ℕ, Bool, true, false, List, [], ◌∷◌, None, map, IsSome}
use Rattle.basics.specs.Members.{AreDistinct, Has}
use Rattle.file_tree.specs.Disk.{Map}
use Rattle.file_tree.specs.Paths.{is_below}
use Rattle.pms_names.specs.Flags.{IsRising}
use Rattle.dep_atom.specs.Ids.{IsId}
use Rattle.merge_journal.specs.Group.{Group, applied, with_placements}
use Rattle.file_tree.specs.Fixed.{database_path}
use Rattle.vdb_law.specs.Database.{Holds, IsDatabase, IsKept, IsOf, folder, folder_name}
use Rattle.vdb_law.specs.Fields.{Says}
use Rattle.vdb_contents.specs.declared.owned.Owned.{Owned}
use Rattle.vdb_law.specs.Packages.{Installed, id_of, paths}

-- what the group puts at each path
abbrev pub put : Group → Map
put g q = with_placements g.content.placements g.objects q None

-- a package owns its paths, and whatever stands in its folder
abbrev pub Owns : Map → Installed → List ℕ → Type 0
Owns m p q = Has (paths p) q ⊎ (IsOf (id_of p) q × IsSome (m q))

-- a package of the database that leaves with the group, and one that stays
abbrev pub Leaves : List Installed → (Installed → Bool) → Installed → Type 0
Leaves ps gone p = Has ps p × (gone p ≡ true)

abbrev pub Stays : List Installed → (Installed → Bool) → Installed → Type 0
Stays ps gone p = Has ps p × (gone p ≡ false)

-- the packages after the group
pub record IsAfter (ps : List Installed) (gone : Installed → Bool)
    (added qs : List Installed) : Type 0 where
  pub rising : IsRising (map folder_name qs)
  pub members : (p : Installed) → Has qs p ↔ (Stays ps gone p ⊎ Has added p)

-- the group removes what the leaving packages own and it doesn't put, and nothing else
pub record Removes (m : Map) (ps : List Installed) (gone : Installed → Bool)
    (g : Group) : Type 0 where
  pub only : (q : List ℕ) → Has g.content.removals q →
      (p : Installed) × Leaves ps gone p × Owns m p q
  pub all : (p : Installed) (q : List ℕ) → Leaves ps gone p → Owns m p q → put g q ≡ None →
      Has g.content.removals q

-- the group puts the coming packages' paths, as they record them, and files of their folders that
-- say so; it puts nothing else into the database
pub record Puts (added : List Installed) (g : Group) : Type 0 where
  pub ids : (a : Installed) → Has added a → IsId (id_of a)
  pub says : (a : Installed) → Has added a → Says (folder (put g) (id_of a)) a
  pub owned : (a : Installed) (o : Owned) → Has added a → Has a.owned o →
      Holds (put g o.path) o.content
  pub inside : (q : List ℕ) → is_below database_path q ≡ true → IsSome (put g q) →
      (a : Installed) × Has added a × IsOf (id_of a) q

-- what is put is owned by no package that stays, and stands neither above nor below what one owns;
-- no two coming packages want one path, or one above another's
pub record IsApart (m : Map) (ps : List Installed) (gone : Installed → Bool)
    (added : List Installed) (g : Group) : Type 0 where
  pub free : (p : Installed) (q : List ℕ) → Stays ps gone p → Owns m p q → put g q ≡ None
  pub beside : (a p : Installed) (q s : List ℕ) → Has added a → Stays ps gone p →
      Has (paths a) q → Has (paths p) s → (is_below q s ≡ false) × (is_below s q ≡ false)
  pub once : (a b : Installed) (q : List ℕ) → Has added a → Has added b → Has (paths a) q →
      Has (paths b) q → a ≡ b
  pub flat : (a b : Installed) (q s : List ℕ) → Has added a → Has added b → Has (paths a) q →
      Has (paths b) s → is_below q s ≡ false

-- a group that takes packages out of a database and brings others
pub record IsStep (m : Map) (ps : List Installed) (gone : Installed → Bool)
    (added : List Installed) (g : Group) : Type 0 where
  pub removes : Removes m ps gone g
  pub puts : Puts added g
  pub apart : IsApart m ps gone added g

-- which packages leave with a group and which come, and what it does
pub record Change : Type 0 where
  pub gone : Installed → Bool
  pub added : List Installed
  pub does : Group

-- what changes do, in their order
abbrev pub groups_of : List Change → List Group
groups_of cs = map (λ c. c.does) cs

-- changes one after another: each is a step over what those before it made
abbrev pub AreSteps : List Change → Map → List Installed → List Installed → Type 0
AreSteps [] m ps qs = qs ≡ ps
AreSteps (c ∷ cs) m ps qs =
    IsStep m ps c.gone c.added c.does
    × ((mid : List Installed) × IsAfter ps c.gone c.added mid
    × AreSteps cs (applied m (c.does ∷ [])) mid qs)

-- the map with a group applied has the packages after it, and keeps what they recorded
abbrev pub GroupKeepsDatabase : Type 0
GroupKeepsDatabase =
    (m : Map) (ps added qs : List Installed) (gone : Installed → Bool) (g : Group) →
    IsDatabase m ps → IsKept m ps → IsStep m ps gone added g → IsAfter ps gone added qs →
    IsDatabase (applied m (g ∷ [])) qs × IsKept (applied m (g ∷ [])) qs

-- the same of any number of groups, none included
abbrev pub GroupsKeepDatabase : Type 0
GroupsKeepDatabase =
    (cs : List Change) (m : Map) (ps qs : List Installed) →
    IsDatabase m ps → IsKept m ps → AreSteps cs m ps qs →
    IsDatabase (applied m (groups_of cs)) qs × IsKept (applied m (groups_of cs)) qs

-- the coming packages have folders of their own: none has that of another, or of one that stays
pub record HaveOwnFolders (ps : List Installed) (gone : Installed → Bool)
    (added : List Installed) : Type 0 where
  pub apart : AreDistinct (map folder_name added)
  pub new : (a p : Installed) → Has added a → Stays ps gone p → ¬ (folder_name a ≡ folder_name p)

-- then there is a list of the packages after the group
abbrev pub SomeAfter : Type 0
SomeAfter =
    (ps added : List Installed) (gone : Installed → Bool) → IsRising (map folder_name ps) →
    HaveOwnFolders ps gone added → (qs : List Installed) × IsAfter ps gone added qs
