use Rattle.std.proofs.Common.{◌≡◌, drop}
use Rattle.choice_tree.specs.Options.{is_among}
use Rattle.choice_tree.specs.Views.{decisions_of, value_of}
use Rattle.choice_tree.proofs.repeats.is_among.Given as goal

abbrev pub invariant-loop-decision : goal.invariant-loop-decision
invariant-loop-decision l = is_among (l.one.line, value_of l.one.value) (decisions_of (drop l.decision-index l.decisions)) ≡ is_among (l.one.line, value_of l.one.value) (decisions_of l.decisions)
