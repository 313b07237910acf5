use Rattle.vdb_contents.proofs.Pieces.{last_space, no_space}
use Rattle.vdb_contents.proofs.cuts.split_last_space.Goals as goal

pub returns-in_err-at : goal.returns-in_err-at
returns-in_err-at c = rw c.from_residual.ensures (no_space c.args.text.now (rw c.in_err-at.was at c.memrchr.ensures))

pub returns : goal.returns
returns c =
    let last = rw c.in_ok-at.was at c.memrchr.ensures in
    last_space c.args.text.now c.split_at.result.0.now c.split_at.result.1.now c.in_ok-at.at c.split_at.ensures.front c.split_at.ensures.back last.0 last.1
