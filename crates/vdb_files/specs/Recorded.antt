-- When what is written of a package is read back.
use Rattle.std.specs.Prelude.{◌≡◌, ℕ, List, [], ◌∷◌}
use Rattle.std.specs.List.{AllByRecursion}
use Rattle.basics.specs.Members.{AreDistinct, Has}
use Rattle.pms_names.specs.Flags.{IsRising}
use Rattle.pms_names.specs.Names.{IsName}
use Rattle.pms_names.specs.declared.kind.Kind.TheVariants as kinds
use Rattle.dep_atom.specs.declared.package.Facts.{Facts}
use Rattle.dep_group.specs.Tokens.{IsFlag, IsInForm}
use Rattle.dep_tree.specs.Grammar as dependencies
use Rattle.dep_tree.specs.Texts.{Dependencies}
use Rattle.required_use.specs.Grammar as expressions
use Rattle.file_tree.specs.Disk.{held_by}
use Rattle.file_tree.specs.declared.objects.Entry.{Entry}
use Rattle.pkg_state.specs.Editions.{FitsEdition}
use Rattle.pkg_state.specs.Package.{tree_of}
use Rattle.pkg_state.specs.declared.class.Class.{Class}
use Rattle.vdb_contents.specs.Contents.{IsOwnable}
use Rattle.vdb_contents.specs.declared.owned.Owned.{Owned}
use Rattle.vdb_law.specs.Database.{IsOf, folder}
use Rattle.vdb_law.specs.Fields.{Folder, Says, bound_of}
use Rattle.vdb_law.specs.Packages.{Installed, id_of, paths}
use Rattle.vdb_files.specs.Written.{AreFolderFiles, AreInOrder, installed_with}

-- a set of flags: names, in byte order
pub record IsFlagSet (set : List (List ℕ)) : Type 0 where
  pub rising : IsRising set
  pub names : AllByRecursion IsFlag set

-- the slots and the flags are names, as they are in all facts that the code has
pub record AreNamed (f : Facts) : Type 0 where
  pub slot : IsName kinds.Slot f.slot
  pub subslot : IsName kinds.Slot f.subslot
  pub known : IsFlagSet f.iuse
  pub enabled : IsFlagSet f.enabled

-- dependencies as a record has them: in form, with no equals operator that is bound to nothing
pub record AreBound (x : Dependencies) : Type 0 where
  pub form : IsInForm dependencies.grammar dependencies.is_block x.groups
  pub bound : bound_of x ≡ x

-- what the package needs and owns can be recorded in its edition
pub record IsRecordable (p : Installed) : Type 0 where
  pub edition : FitsEdition p.package_is
  pub needs : (class : Class) → AreBound (tree_of class p.package_is)
  pub required : IsInForm expressions.grammar expressions.never p.package_is.required.groups
  pub owned : AllByRecursion IsOwnable p.owned

-- what the files hold in the package's folder
abbrev pub folder_of : Installed → List Entry → Folder
folder_of p es = folder (held_by es) (id_of p)

-- The files of a package that can be recorded, and whose paths differ, say that package, with its
-- paths in byte order.
abbrev pub SortedRecordsAreReadBack : Type 0
SortedRecordsAreReadBack =
    (p : Installed) (es : List Entry) → AreNamed p.package_is.facts → IsRecordable p →
    AreDistinct (paths p) → AreFolderFiles p es →
    (sorted : List Owned) × AreInOrder p.owned sorted ×
    Says (folder_of p es) (installed_with p.package_is sorted)

-- Where the paths rise, they say the package itself.
abbrev pub RecordsAreReadBack : Type 0
RecordsAreReadBack =
    (p : Installed) (es : List Entry) → AreNamed p.package_is.facts → IsRecordable p →
    IsRising (paths p) → AreFolderFiles p es → Says (folder_of p es) p

-- All of the files are in the package's folder.
abbrev pub FilesAreInTheFolder : Type 0
FilesAreInTheFolder =
    (p : Installed) (es : List Entry) (e : Entry) → AreFolderFiles p es → Has es e →
    IsOf (id_of p) e.path

-- What a folder says can be recorded again.
abbrev pub SaidIsRecordable : Type 0
SaidIsRecordable =
    (f : Folder) (p : Installed) → Says f p →
    AreNamed p.package_is.facts × IsRecordable p × AreDistinct (paths p)
