use Rattle.merge_journal.specs.Names.{Gate}
use Rattle.merge_journal.proofs.Named.{part_is_path}
use Rattle.merge_journal.proofs.names.gate_path.Goals as goal

pub named-requires : goal.named-requires
named-requires c = part_is_path c.args.group Gate
