use Rattle.std.proofs.Common.{◌≡◌, take}
use Rattle.std.specs.Option.{option_map}
use Rattle.choice_law.specs.Tree.{decided}
use Rattle.choice_tree.specs.Views.{value_of}
use Rattle.choice_walk.specs.Way.{here}
use Rattle.choice_walk.proofs.trail.newest.Given as goal

abbrev pub invariant-loop-turn : goal.invariant-loop-turn
invariant-loop-turn l = option_map value_of l.found ≡ decided (here (take l.turn-index l.trail)) l.line
