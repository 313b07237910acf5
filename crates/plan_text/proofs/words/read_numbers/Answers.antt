use Rattle.plan_text.proofs.Readers.{numbers_stop}
use Rattle.plan_text.proofs.words.read_numbers.Goals as goal

pub returns-in_default : goal.returns-in_default
returns-in_default c =
    numbers_stop c.args.words.now c.loop-word.word-index _ c.loop-word.numbers.items c.loop-word-test.true c.loop-word.invariant.1 (c.in_default.ensures)
