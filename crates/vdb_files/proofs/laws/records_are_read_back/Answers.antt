use Rattle.vdb_files.proofs.Folder.{files_inside, read_back, sorted_read_back}
use Rattle.vdb_files.proofs.laws.records_are_read_back.Goals as goal

pub returns-clause-sorted : goal.returns-clause-sorted
returns-clause-sorted c = sorted_read_back c.contents_are_read_back.ensures.back

pub returns-clause-same : goal.returns-clause-same
returns-clause-same c = read_back c.contents_are_read_back.ensures.back

pub returns-clause-inside : goal.returns-clause-inside
returns-clause-inside c = files_inside
