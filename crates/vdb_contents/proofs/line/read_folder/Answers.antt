use Rattle.vdb_contents.proofs.Said.{a_folder}
use Rattle.vdb_contents.proofs.line.read_folder.Goals as goal

pub returns : goal.returns
returns c = a_folder c.args.rest.now (rw c.in-Some.is at c.in_ok-_path.ensures).1
