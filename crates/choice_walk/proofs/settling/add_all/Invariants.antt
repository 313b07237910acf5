use Rattle.std.proofs.Common.{take}
use Rattle.choice_walk.specs.Settled.{AreIn, AreKept}
use Rattle.choice_walk.proofs.settling.add_all.Given as goal

abbrev pub invariant-loop-line : goal.invariant-loop-line
invariant-loop-line l = AreKept l.fn.lines l.lines × AreIn (take l.line-index l.more) l.lines
