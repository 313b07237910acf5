use Rattle.config_vars.specs.Judged.{IsWordOf}
use Rattle.config_vars.proofs.Judging.{none_all}
use Rattle.config_vars.proofs.grammar.are_each_of.Goals as goal

pub returns-then-not-is_word_of : goal.returns-then-not-is_word_of
returns-then-not-is_word_of c =
    none_all (IsWordOf c.args.grammar) c.args.words.now c.loop-word.word-index _ c.loop-word-test.true (rw c.if-not-is_word_of.true at c.is_word_of.ensures)
