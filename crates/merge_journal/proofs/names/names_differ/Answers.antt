use Rattle.merge_journal.proofs.Named.{part_is_path}
use Rattle.merge_journal.proofs.Naming.{part_path-injective, named-below}
use Rattle.merge_journal.specs.Names.{part_name}
use Rattle.merge_journal.proofs.names.names_differ.Goals as goal

pub returns-clause-apart : goal.returns-clause-apart
returns-clause-apart c = part_path-injective

pub returns-clause-below : goal.returns-clause-below
returns-clause-below c = λ g p. named-below g (part_name p)

pub returns-clause-paths : goal.returns-clause-paths
returns-clause-paths c = part_is_path
