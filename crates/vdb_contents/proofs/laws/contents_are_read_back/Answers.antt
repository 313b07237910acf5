use Rattle.vdb_contents.proofs.Lines.{good_has_no_fault, one_contents, one_fault, read_back}
use Rattle.vdb_contents.proofs.laws.contents_are_read_back.Goals as goal

pub returns-clause-back : goal.returns-clause-back
returns-clause-back c = read_back

pub returns-clause-one : goal.returns-clause-one
returns-clause-one c = one_contents

pub returns-clause-good : goal.returns-clause-good
returns-clause-good c = good_has_no_fault

pub returns-clause-fault : goal.returns-clause-fault
returns-clause-fault c = one_fault
