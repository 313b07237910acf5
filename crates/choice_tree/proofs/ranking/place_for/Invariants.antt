use Rattle.std.proofs.Common.{◌≡◌, ◌++◌, drop, take}
use Rattle.choice_tree.specs.Candidates.{put}
use Rattle.choice_tree.specs.Shown.{candidate_of, candidates_of}
use Rattle.choice_tree.proofs.ranking.place_for.Given as goal

abbrev pub invariant-loop-place : goal.invariant-loop-place
invariant-loop-place l = take l.place (candidates_of l.ranked) ++ put l.update (candidate_of l.one) (drop l.place (candidates_of l.ranked)) ≡ put l.update (candidate_of l.one) (candidates_of l.ranked)
