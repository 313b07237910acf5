use Rattle.std.proofs.Common.{[]}
use Rattle.choice_walk.specs.Marks.{AreMarks}
use Rattle.choice_walk.proofs.marks.unmarked.Given as goal

abbrev pub invariant-loop : goal.invariant-loop
invariant-loop l = AreMarks l.counter [] l.marks.items
