-- The files of a package's record in the database of installed packages.
use Rattle.std.specs.Prelude.{ℕ, Bool, ◌&&◌, ◌||◌, ◌==◌, ltb, leb, List, [], ◌∷◌, ◌++◌, codes, length}
use Rattle.std.specs.Int.{is_in_range}
use Rattle.std.specs.List.{list_all}
use Rattle.file_tree.specs.ObjectValue.{plain}
use Rattle.file_tree.specs.declared.objects.Entry.{Entry}
use Rattle.dep_atom.specs.Ids.{id_text}
use Rattle.dep_atom.specs.declared.package.PackageId.{PackageId}

-- the package's own folder there
abbrev pub package_folder : PackageId → List ℕ
package_folder id = codes "var/db/pkg/" ++ id_text id

-- a file of that folder
unfoldable pub package_file_path : PackageId → List ℕ → List ℕ
package_file_path id name = codes "var/db/pkg/" ++ (id_text id ++ (47 ∷ name))

-- a capital letter or an underscore
abbrev pub is_capital : ℕ → Bool
is_capital b = is_in_range 65 90 b || b == 95

-- the most bytes of the name of a record's file
abbrev pub most_name_bytes : ℕ
most_name_bytes = 100

-- the name of a record's file: some capital letters and underscores, and not too many
abbrev pub is_file_name : List ℕ → Bool
is_file_name name = ltb 0 (length name) &&
    (leb (length name) most_name_bytes && list_all is_capital name)

-- the text of EAPI
abbrev pub eapi_text : List ℕ
eapi_text = 56 ∷ 10 ∷ []

-- a file of the record with this text
abbrev pub record_file : PackageId → List ℕ → List ℕ → Entry
record_file id name text = record { path = package_file_path id name; object = plain text }
