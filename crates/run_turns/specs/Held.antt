-- The paths that are held for the folders of packages: what a package owns, as it was read before
-- the first group, or as it was brought.
use Rattle.std.specs.Prelude.{◌≡◌, ◌↔◌, ℕ, true, List, [], ◌∷◌, Option, None, Some, Vec, bytes_eq, map, if◌then◌else◌}
use Rattle.std.specs.BTreeMap.{get_by_text}
use Rattle.std.specs.Global.{Global}
use Rattle.std.specs.List.{flat_map}
use Rattle.basics.specs.Members.{AreDistinct, Has}
use Rattle.dep_atom.specs.Ids.{id_text}
use Rattle.file_tree.specs.Disk.{Map}
use Rattle.merge_fit.specs.Images.{path_of}
use Rattle.plan_law.specs.Plans.{Group, Removal}
use Rattle.vdb_law.specs.Database.{folder_name}
use Rattle.vdb_law.specs.Packages.{Installed}
use Rattle.vdb_law.specs.Step.{Owns}
use Rattle.merge_group.specs.Working.{all_in, all_of}
use Rattle.merge_group.specs.declared.files.Files.{Files}
use Rattle.run_files.specs.Keys.{folder_of}
use Rattle.run_files.specs.declared.newcomer.Newcomer.{Newcomer}
use Rattle.run_turns.specs.Plans.{is_named}
use Rattle.run_turns.specs.declared.held.Held.{Held}

-- the paths for each folder
abbrev pub Holdings : Type 0
Holdings = List ℕ → List (List ℕ)

abbrev pub paths_or_none : Option (Vec (List ℕ) Global) → List (List ℕ)
paths_or_none None = []
paths_or_none (Some paths) = paths.items

abbrev pub holdings_of : Held → Holdings
holdings_of held folder = paths_or_none (get_by_text held.paths folder)

-- with these paths for this folder
abbrev pub holding : List ℕ → List (List ℕ) → Holdings → Holdings
holding folder paths held q = if bytes_eq folder q then paths else held q

-- with the paths of packages that came, by their files
abbrev pub holding_all : List Newcomer → List Files → Holdings → Holdings
holding_all [] files held = held
holding_all (n ∷ newcomers) [] held = held
holding_all (n ∷ newcomers) (f ∷ files) held =
    holding_all newcomers files (holding (folder_of n.pkg) (map path_of (all_in f)) held)

-- the paths for the packages that the removals name
abbrev pub held_for : Holdings → List Removal → List (List ℕ)
held_for held removals = flat_map (λ r. held (id_text r.id)) removals

-- these paths are removed: those for the packages that the removals name, but for those of the
-- files
abbrev pub AreHeldRemovals : Holdings → List Removal → List Files → List (List ℕ) → Type 0
AreHeldRemovals held removals files paths = (q : List ℕ) →
    Has paths q ↔ (Has (held_for held removals) q × ¬ Has (map path_of (all_of files)) q)

-- where no two packages have one folder, the paths are held that each owns which a removal of the
-- plan names
abbrev pub HoldOwned : Map → List Installed → List Group → Holdings → Type 0
HoldOwned m ps plan held = AreDistinct (map folder_name ps) →
    (p : Installed) (g : Group) → Has ps p → Has plan g →
    is_named g p ≡ true → (q : List ℕ) → Has (held (folder_name p)) q ↔ Owns m p q
