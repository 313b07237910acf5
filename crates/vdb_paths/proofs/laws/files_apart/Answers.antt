use Rattle.vdb_paths.proofs.Packages.{record_is_below, record_names_differ}
use Rattle.vdb_paths.proofs.laws.files_apart.Goals as goal

pub returns-clause-below : goal.returns-clause-below
returns-clause-below c = record_is_below

pub returns-clause-apart : goal.returns-clause-apart
returns-clause-apart c = record_names_differ
