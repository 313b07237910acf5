use Rattle.vdb_law.proofs.After.{some_after}
use Rattle.vdb_law.proofs.Law.{group_keeps, groups_keep}
use Rattle.vdb_law.proofs.laws.groups_keep_the_database.Goals as goal

pub returns-clause-one : goal.returns-clause-one
returns-clause-one c = group_keeps c.one_name_and_version.ensures c.one_spelling.ensures

pub returns-clause-all : goal.returns-clause-all
returns-clause-all c = groups_keep c.one_name_and_version.ensures c.one_spelling.ensures

pub returns-clause-some : goal.returns-clause-some
returns-clause-some c = some_after
