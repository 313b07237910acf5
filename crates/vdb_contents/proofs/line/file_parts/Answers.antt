use Rattle.vdb_contents.proofs.Said.{no_second_cut}
use Rattle.vdb_contents.proofs.line.file_parts.Goals as goal

pub returns-in_err-path : goal.returns-in_err-path
returns-in_err-path c =
    rw c.from_residual-in_err-path.ensures (no_second_cut c.args.rest.now c.in_ok-front.front.now c.in_ok-front.time.now c.in_ok-front.ensures c.in_err-path.ensures)
