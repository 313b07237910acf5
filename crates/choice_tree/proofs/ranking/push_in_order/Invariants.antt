use Rattle.std.proofs.Common.{◌≡◌, ◌++◌, drop}
use Rattle.std.proofs.Common.{map}
use Rattle.choice_tree.specs.Options.{decision_of, in_order}
use Rattle.choice_tree.specs.Shown.{candidates_of}
use Rattle.choice_tree.specs.Views.{decisions_of}
use Rattle.choice_tree.proofs.ranking.push_in_order.Given as goal

abbrev pub invariant-loop-candidate : goal.invariant-loop-candidate
invariant-loop-candidate l = decisions_of l.out.items ++ map decision_of (candidates_of (drop l.candidate-index l.candidate-items)) ≡ decisions_of l.fn.out.items ++ in_order l.fn.update (candidates_of l.fn.candidates)
