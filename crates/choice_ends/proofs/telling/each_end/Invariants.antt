use Rattle.std.proofs.Common.{take}
use Rattle.std.specs.List.{AllZip}
use Rattle.choice_tree.specs.Views.{universe_of}
use Rattle.choice_ends.specs.Ends.{IsDeadEnd}
use Rattle.choice_ends.proofs.telling.each_end.Given as goal

abbrev pub invariant-loop-choice : goal.invariant-loop-choice
invariant-loop-choice l =
    AllZip (IsDeadEnd (universe_of l.universe)) (take l.choice-index l.choices) l.ends.items
