use Rattle.std.proofs.Common.{◌≡◌, ◌++◌, drop}
use Rattle.choice_tree.proofs.choice.copied.Given as goal

abbrev pub invariant-loop-decision : goal.invariant-loop-decision
invariant-loop-decision l = l.copy.items ++ drop l.decision-index l.decisions ≡ l.decisions
