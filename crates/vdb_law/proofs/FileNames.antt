-- The files of a package's folder are named as those of a record are.
use Rattle.std.proofs.Common.{◌≡◌, true, refl}
use Rattle.pkg_state.specs.declared.class.Class.TheVariants.{Bdepend, Depend, Idepend, Pdepend, Rdepend}
use Rattle.vdb_paths.specs.Files.{is_file_name}
use Rattle.vdb_law.specs.Fields.{Field, contents, eapi, flags, known, name_of, needs, required, slots}

pub name_is_file_name : (k : Field) → is_file_name (name_of k) ≡ true
name_is_file_name contents = refl
name_is_file_name eapi = refl
name_is_file_name slots = refl
name_is_file_name flags = refl
name_is_file_name known = refl
name_is_file_name required = refl
name_is_file_name (needs Rdepend) = refl
name_is_file_name (needs Pdepend) = refl
name_is_file_name (needs Depend) = refl
name_is_file_name (needs Bdepend) = refl
name_is_file_name (needs Idepend) = refl
