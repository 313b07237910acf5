use Rattle.std.proofs.Common.{◌≡◌, drop, []}
use Rattle.choice_tree.specs.Options.{once_onto}
use Rattle.choice_tree.specs.Views.{decisions_of}
use Rattle.choice_tree.proofs.repeats.once.Given as goal

abbrev pub invariant-loop-decision : goal.invariant-loop-decision
invariant-loop-decision l = once_onto (decisions_of l.out.items) (decisions_of (drop l.decision-index l.decisions)) ≡ once_onto [] (decisions_of l.decisions)
