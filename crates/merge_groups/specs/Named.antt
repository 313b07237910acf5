-- What the types of the code promise of a package's names.
use Rattle.dep_atom.specs.Ids.{IsId}
use Rattle.pkg_state.specs.Package.{Package}
use Rattle.vdb_files.specs.Recorded.{AreNamed}

-- its name and version, its slots and its flags are in form
pub record IsNamed (p : Package) : Type 0 where
  pub id : IsId p.facts.id
  pub facts : AreNamed p.facts
