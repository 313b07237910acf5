use Rattle.std.proofs.Common.{◌≡◌, ◌++◌, ◌∷◌, drop}
use Rattle.choice_tree.proofs.choice.with_more.Given as goal

abbrev pub invariant-loop-decision : goal.invariant-loop-decision
invariant-loop-decision l = l.more.items ++ drop l.decision-index l.decisions ≡ l.fn.newest ∷ l.decisions
