use Rattle.config_vars.specs.Judged.{IsItemOf}
use Rattle.config_vars.proofs.Judging.{none_all}
use Rattle.config_vars.proofs.grammar.are_each_item.Goals as goal

pub returns-then-not-branch : goal.returns-then-not-branch
returns-then-not-branch c =
    none_all (IsItemOf c.args.variable.now) c.args.words.now c.loop-word.word-index _ c.loop-word-test.true (rw c.if-not-branch.true at c.in_ok-is_item_of.ensures)
