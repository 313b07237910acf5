use Rattle.owner_book.proofs.Naming.{stays_insert}
use Rattle.owner_book.proofs.named.Named.name.Goals as goal

pub returns-clause-stays : goal.returns-clause-stays
returns-clause-stays c = stays_insert _ c.args.self.now.keys c.insert.new.self c.in_ok-insert.ensures.updates.0
