use Rattle.std.specs.BTreeSet.{btree_set_len}
use Rattle.choice_walk.specs.Settled.{AreSettled}
use Rattle.choice_walk.proofs.taking_up.first_of_packages.Given as goal

abbrev pub invariant-loop-line : goal.invariant-loop-line
invariant-loop-line l = AreSettled l.around.places.now l.unsettled

abbrev pub decreases-loop-line : goal.decreases-loop-line
decreases-loop-line l = btree_set_len l.unsettled
