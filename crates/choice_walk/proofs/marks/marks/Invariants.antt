use Rattle.std.proofs.Common.{take}
use Rattle.choice_tree.specs.Views.{decisions_of}
use Rattle.choice_walk.specs.Marks.{AreMarks}
use Rattle.choice_walk.proofs.marks.marks.Given as goal

abbrev pub invariant-loop-decision : goal.invariant-loop-decision
invariant-loop-decision l = AreMarks l.fn.lines (decisions_of (take l.decision-index l.decisions)) l.marks.items
