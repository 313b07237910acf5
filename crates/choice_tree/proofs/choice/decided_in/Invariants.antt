use Rattle.std.proofs.Common.{◌≡◌, drop}
use Rattle.choice_law.specs.Tree.{decided}
use Rattle.choice_tree.specs.Views.{decisions_of}
use Rattle.choice_tree.proofs.choice.decided_in.Given as goal

abbrev pub invariant-loop-decision : goal.invariant-loop-decision
invariant-loop-decision l = decided (decisions_of (drop l.decision-index l.decisions)) l.line ≡ decided (decisions_of l.decisions) l.line
