-- Who is to own the paths of the packages that come with a group, beside those that are there.
use Rattle.std.specs.Prelude.{ℕ, List, ◌++◌, map}
use Rattle.dep_atom.specs.Ids.{id_text}
use Rattle.merge_record.specs.declared.record.OwnerKey.{OwnerKey}
use Rattle.pkg_state.specs.Package.{Package}
use Rattle.vdb_law.specs.Database.{folder_name}
use Rattle.vdb_law.specs.Packages.{Installed}
use Rattle.law_run.specs.Openings.{key_at, place_of}

-- the name of a package's own folder
abbrev pub folder_of : Package → List ℕ
folder_of p = id_text p.facts.id

-- the folders of the installed packages, and behind them those of the packages that come
abbrev pub folders_with : List Installed → List Package → List (List ℕ)
folders_with ps coming = map folder_name ps ++ map folder_of coming

-- a package's key among these is the first place of its folder
abbrev pub key_with : List Installed → List Package → Installed → OwnerKey
key_with ps coming p = key_at (place_of (folder_name p) (folders_with ps coming))
