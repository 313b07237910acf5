use Rattle.law_change.proofs.Exchanged.{are_told, leave_owned_trees}
use Rattle.law_change.proofs.laws.granted_exchanges_leave_owned_trees.Goals as goal

pub returns-clause-told : goal.returns-clause-told
returns-clause-told c = are_told c.one_name_and_version.ensures c.one_spelling.ensures

pub returns-clause-leave : goal.returns-clause-leave
returns-clause-leave c = leave_owned_trees c.granted_claims_are_good.ensures c.settled_owners_are.ensures c.groups_keep_the_database.ensures.one c.groups_keep_the_database.ensures.some c.one_name_and_version.ensures c.one_spelling.ensures
