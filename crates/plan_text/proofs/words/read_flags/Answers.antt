use Rattle.plan_text.proofs.Readers.{flags_stop}
use Rattle.plan_text.proofs.words.read_flags.Goals as goal

pub returns-in_default : goal.returns-in_default
returns-in_default c =
    flags_stop c.args.words.now c.loop-word.word-index _ c.loop-word.flags.items c.loop-word-test.true c.loop-word.invariant.1 (rw c.in_default.is at c.in_ok-flag.ensures)
