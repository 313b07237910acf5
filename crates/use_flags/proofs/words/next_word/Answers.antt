use Rattle.std.proofs.Common.{sym}
use Rattle.use_flags.proofs.Next.{next_at_white, next_at_end, no_next}
use Rattle.use_flags.proofs.words.next_word.Goals as goal

pub returns-in_default : goal.returns-in_default
returns-in_default c = no_next c.args.bytes.now c.args.from (sym (rw c.split_at.ensures.back at c.in_default.ensures))

pub returns-in-Some-first_blank : goal.returns-in-Some-first_blank
returns-in-Some-first_blank c =
    let gap = rw c.split_at.ensures.back at c.in-Some.ensures in
    let len = rw (c.split_at-2.ensures.back, c.split_at.ensures.back) at c.in-Some-first_blank.ensures in
    rw (c.split_at-in-Some-first_blank.ensures.front, c.split_at-2.ensures.back, c.split_at.ensures.back) (next_at_white c.args.bytes.now c.args.from c.in-Some.gap c.in-Some-first_blank.len c.requires.within c.requires.apart (sym gap) (sym len))

pub returns-in-None : goal.returns-in-None
returns-in-None c =
    let gap = rw c.split_at.ensures.back at c.in-Some.ensures in
    let none = rw (c.split_at-2.ensures.back, c.split_at.ensures.back) at c.in-None.ensures in
    rw (c.split_at-2.ensures.back, c.split_at.ensures.back) (next_at_end c.args.bytes.now c.args.from c.in-Some.gap c.requires.within c.requires.apart (sym gap) (sym none))
