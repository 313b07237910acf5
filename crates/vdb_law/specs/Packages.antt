-- An installed package, as plain data: what it is, and what it recorded of its paths.
use Rattle.std.specs.Prelude.{ℕ, List, map}
use Rattle.dep_atom.specs.declared.package.PackageId.{PackageId}
use Rattle.pkg_state.specs.Package.{Package}
use Rattle.vdb_contents.specs.Contents.{path_of}
use Rattle.vdb_contents.specs.declared.owned.Owned.{Owned}

pub record Installed : Type 0 where
  pub package_is : Package
  pub owned : List Owned

abbrev pub id_of : Installed → PackageId
id_of p = p.package_is.facts.id

-- the paths of its CONTENTS
abbrev pub paths : Installed → List (List ℕ)
paths p = map path_of p.owned
