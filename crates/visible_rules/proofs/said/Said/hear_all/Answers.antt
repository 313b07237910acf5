use Rattle.visible_rules.specs.Heard.{told}
use Rattle.visible_rules.proofs.Hearing.{hear_more}
use Rattle.visible_rules.proofs.said.Said.hear_all.Goals as goal

pub loop-word-preserved : goal.loop-word-preserved
loop-word-preserved c before was q =
    hear_more c.args.words.now before c.loop-word.word-index c.word-item.result c.as_str.result.now q (told c.hear.new.self q) (told c.loop-word.self q) c.loop-word-test.true c.word-item.is c.as_str.ensures (c.in_ok-hear.ensures q) (c.loop-word.invariant before was q)
