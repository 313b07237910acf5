use Rattle.basics.proofs.Texts.{some_bytes}
use Rattle.vdb_contents.proofs.Pieces.{ended_line, whole_line}
use Rattle.vdb_contents.proofs.cuts.first_line.Goals as goal

pub returns-in-Some : goal.returns-in-Some
returns-in-Some c =
    ended_line c.args.text.now c.split_at.result.0.now c.split_at.result.1.now c.in-Some.at c.split_at.ensures.front c.split_at.ensures.back c.in-Some.ensures.0 c.in-Some.ensures.1

pub returns-in-None : goal.returns-in-None
returns-in-None c =
    whole_line c.args.text.now c.split_at-in-None.result.0.now c.split_at-in-None.result.1.now (some_bytes c.args.text.now c.is_empty.result c.is_empty.ensures c.if-is_empty.false)
    c.split_at-in-None.ensures.front c.split_at-in-None.ensures.back c.in-None.ensures
