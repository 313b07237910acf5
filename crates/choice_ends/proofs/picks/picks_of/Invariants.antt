use Rattle.std.proofs.Common.{◌≡◌, ◌++◌, drop}
use Rattle.choice_tree.specs.Views.{decisions_of, universe_of}
use Rattle.choice_ends.specs.Ends.{picks_of}
use Rattle.choice_ends.proofs.picks.picks_of.Given as goal

abbrev pub invariant-loop-decision : goal.invariant-loop-decision
invariant-loop-decision l =
    l.picks.items ++ picks_of (universe_of l.universe) (decisions_of (drop l.decision-index l.decisions))
    ≡ picks_of (universe_of l.universe) (decisions_of l.decisions)
