use Rattle.choice_tree.specs.Places.{numbers}
use Rattle.choice_walk.specs.Settled.{AreIn}
use Rattle.choice_walk.proofs.settling.all_lines.Given as goal

abbrev pub invariant-loop-line : goal.invariant-loop-line
invariant-loop-line l = AreIn (numbers l.line 0) l.lines
