use Rattle.std.proofs.Common.{◌≡◌, ◌&&◌, is_some}
use Rattle.choice_law.specs.Reasons.{rests_on, those_below}
use Rattle.choice_law.specs.Tree.{decided}
use Rattle.choice_tree.specs.Open.{obligation_of}
use Rattle.choice_tree.specs.Views.{universe_of}
use Rattle.choice_walk.proofs.reasons.reason_of.Given as goal

abbrev pub invariant-loop-line : goal.invariant-loop-line
invariant-loop-line l = l.lines.items ≡ those_below (λ k. is_some (decided l.choice.choice k) && rests_on (universe_of l.universe) l.choice.choice (obligation_of l.obligation) k) l.line
