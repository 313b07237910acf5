use Rattle.std.proofs.Common.{◌∙◌, arith}
use Rattle.plan_lives.specs.Index.{line_key}
use Rattle.plan_lives.proofs.Keyed.{keyed_more, line_at}
use Rattle.plan_lives.proofs.indexing.by_line.Goals as goal

pub loop-place-preserved : goal.loop-place-preserved
loop-place-preserved c =
    keyed_more line_key c.args.lives.now c.loop-place.place c.index-lives-place.result c.text.result.now c.loop-place.found.lists c.add.new.self.lists (omega arith) c.index-lives-place.is
    (c.text.ensures ∙ line_at c.args.lives.now c.args.lines.now c.loop-place.place c.index-lives-place.result c.index-lines-place.result c.requires (omega arith) c.index-lives-place.is c.index-lines-place.is)
    c.loop-place.invariant c.in_ok-add.ensures
