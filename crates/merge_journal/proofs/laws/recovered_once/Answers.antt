use Rattle.merge_journal.proofs.Recovery.{recovered_once, some_recovered}
use Rattle.merge_journal.proofs.laws.recovered_once.Goals as goal

pub returns-clause-once : goal.returns-clause-once
returns-clause-once c = recovered_once

pub returns-clause-some : goal.returns-clause-some
returns-clause-some c = some_recovered
