-- Packages that come with one group, as their files tell them, and what the group removes.
use Rattle.std.specs.Prelude.{◌≡◌, ◌↔◌, ℕ, Bool, List, map}
use Rattle.std.specs.List.{AllZip}
use Rattle.basics.specs.Members.{Has}
use Rattle.file_tree.specs.Disk.{Map}
use Rattle.merge_fit.specs.Images.{path_of}
use Rattle.merge_record.specs.declared.record.OwnerKey.{OwnerKey}
use Rattle.vdb_law.specs.Packages.{Installed}
use Rattle.vdb_law.specs.Step.{Leaves, Owns}
use Rattle.merge_group.specs.Working.{all_of}
use Rattle.merge_group.specs.declared.files.Files.{Files}
use Rattle.law_package.specs.Packages.{AreFilesOf}

-- place by place, the files are those of the packages that come
abbrev pub AreFilesOfEach : List Files → List Installed → Type 0
AreFilesOfEach packages added = AllZip AreFilesOf packages added

-- .. and name the keys of their owners
abbrev pub AreKeysOfEach : (Installed → OwnerKey) → List Files → List Installed → Type 0
AreKeysOfEach key packages added = AllZip (λ files a. key a ≡ files.owner) packages added

-- a path is removed exactly where a package that goes owns it, and none that comes places it
abbrev pub IsRemovalOf : Map → List Installed → (Installed → Bool) → List Files →
    List (List ℕ) → Type 0
IsRemovalOf m ps gone packages removals =
    (q : List ℕ) → Has removals q ↔
    (((p : Installed) × Leaves ps gone p × Owns m p q) × ¬ Has (map path_of (all_of packages)) q)
