use Rattle.merge_journal.specs.Names.{Changes}
use Rattle.merge_journal.proofs.Named.{part_is_path}
use Rattle.merge_journal.proofs.names.record_path.Goals as goal

pub named-requires : goal.named-requires
named-requires c = part_is_path c.args.group Changes
