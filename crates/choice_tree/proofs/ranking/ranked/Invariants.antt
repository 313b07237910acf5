use Rattle.std.proofs.Common.{◌≡◌, drop}
use Rattle.choice_tree.specs.Candidates.{ranked, ranked_onto}
use Rattle.choice_tree.specs.Shown.{candidates_of}
use Rattle.choice_tree.proofs.ranking.ranked.Given as goal

abbrev pub invariant-loop-candidate : goal.invariant-loop-candidate
invariant-loop-candidate l = ranked_onto l.update (candidates_of l.out.items) (candidates_of (drop l.candidate-index l.candidates)) ≡ ranked l.update (candidates_of l.candidates)
