use Rattle.std.proofs.Common.{◌≡◌, ◌++◌, drop, filter}
use Rattle.choice_tree.specs.Shown.{candidates_of}
use Rattle.dep_atom.specs.Match.{value_matches}
use Rattle.dep_atom.specs.Values.{atom_value}
use Rattle.choice_tree.proofs.filtering.matching.Given as goal

abbrev pub invariant-loop-candidate : goal.invariant-loop-candidate
invariant-loop-candidate l = candidates_of l.out.items ++ filter (λ x. value_matches (atom_value l.atom) x.is.facts l.asker) (candidates_of (drop l.candidate-index l.candidates)) ≡ filter (λ x. value_matches (atom_value l.atom) x.is.facts l.asker) (candidates_of l.candidates)
