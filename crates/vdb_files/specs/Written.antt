-- What is written of an installed package: a text for each field, and the files that have them.
use Rattle.std.specs.Prelude.{◌≡◌, ◌||◌, ℕ, Bool, true, false, List, [], ◌∷◌, ◌++◌, if◌then◌else◌}
use Rattle.std.specs.List.{flat_map}
use Rattle.std.specs.List.Sorted.{IsPermutation, IsSortedByKey, IsStableByKey}
use Rattle.pms_names.specs.Flags.{byte_order}
use Rattle.dep_group.specs.Words.{spaced}
use Rattle.dep_tree.specs.Texts as dependencies
use Rattle.required_use.specs.Texts as expressions
use Rattle.pms_slot.specs.Slots.{slot_text}
use Rattle.file_tree.specs.declared.objects.Entry.{Entry}
use Rattle.pkg_state.specs.Eapis.{eapi_text}
use Rattle.pkg_state.specs.Package.{Package, tree_of}
use Rattle.pkg_state.specs.declared.class.Class.TheVariants.{Bdepend, Depend, Idepend, Pdepend, Rdepend}
use Rattle.vdb_paths.specs.Files.{record_file}
use Rattle.vdb_contents.specs.Contents.{contents_text, path_of}
use Rattle.vdb_contents.specs.declared.owned.Owned.{Owned}
use Rattle.vdb_law.specs.Fields.{Field, contents, eapi, flags, is_needed, known, name_of, needs, required, slots}
use Rattle.vdb_law.specs.Packages.{Installed, id_of}

-- a newline behind a text that has bytes
abbrev pub with_newline : List ℕ → List ℕ
with_newline [] = []
with_newline (b ∷ bs) = (b ∷ bs) ++ (10 ∷ [])

-- the text of a field: a line for each owned path, or the words with one space between each two
-- and a newline behind
abbrev pub value_of : Field → Installed → List ℕ
value_of contents p = contents_text p.owned
value_of eapi p = with_newline (eapi_text p.package_is.eapi)
value_of slots p = with_newline (slot_text p.package_is.facts.slot p.package_is.facts.subslot)
value_of flags p = with_newline (spaced p.package_is.facts.enabled)
value_of known p = with_newline (spaced p.package_is.facts.iuse)
value_of required p = with_newline (expressions.text_of p.package_is.required)
value_of (needs class) p = with_newline (dependencies.text_of (tree_of class p.package_is))

abbrev pub has_bytes : List ℕ → Bool
has_bytes [] = false
has_bytes (b ∷ bs) = true

-- the file of a field is there where it must be, or where the text has bytes
abbrev pub is_written : Field → Installed → Bool
is_written k p = is_needed k || has_bytes (value_of k p)

-- that file, if it is there
abbrev pub file_if_written : Installed → Field → List Entry
file_if_written p k =
    if is_written k p then record_file (id_of p) (name_of k) (value_of k p) ∷ [] else []

-- the fields, in byte order of the names of their files
abbrev pub fields : List Field
fields = needs Bdepend ∷ contents ∷ needs Depend ∷ eapi ∷ needs Idepend ∷ known ∷ needs Pdepend
    ∷ needs Rdepend ∷ required ∷ slots ∷ flags ∷ []

-- the files of the package's folder
abbrev pub folder_files : Installed → List Entry
folder_files p = flat_map (file_if_written p) fields

-- the same paths, in byte order; what is owned twice keeps its order
pub record AreInOrder (owned sorted : List Owned) : Type 0 where
  pub all : IsPermutation owned sorted
  pub rising : IsSortedByKey path_of byte_order sorted
  pub stable : IsStableByKey path_of byte_order owned sorted

-- the package that owns these paths
abbrev pub installed_with : Package → List Owned → Installed
installed_with p owned = record { package_is = p; owned = owned }

-- the entries are the files of the package's folder, where its paths are put in byte order
abbrev pub AreFolderFiles : Installed → List Entry → Type 0
AreFolderFiles p es = (sorted : List Owned) × AreInOrder p.owned sorted ×
    (es ≡ folder_files (installed_with p.package_is sorted))
