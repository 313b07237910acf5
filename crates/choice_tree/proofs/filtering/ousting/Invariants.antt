use Rattle.std.proofs.Common.{◌≡◌, ◌++◌, drop, filter, true}
use Rattle.choice_tree.specs.Shown.{candidates_of}
use Rattle.choice_law.specs.Universe.{conflicts}
use Rattle.choice_tree.proofs.filtering.ousting.Given as goal

abbrev pub invariant-loop-candidate : goal.invariant-loop-candidate
invariant-loop-candidate l = candidates_of l.out.items ++ filter (λ x. conflicts true x.is l.gone) (candidates_of (drop l.candidate-index l.candidates)) ≡ filter (λ x. conflicts true x.is l.gone) (candidates_of l.candidates)
