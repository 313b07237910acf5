use Rattle.std.proofs.Common.{◌≡◌, ◌++◌, drop, filter, get_or, not}
use Rattle.choice_tree.specs.Shown.{candidates_of}
use Rattle.choice_tree.specs.Open.{opposes}
use Rattle.choice_tree.specs.Places.{no_place}
use Rattle.choice_tree.specs.Seen.{places_of}
use Rattle.choice_tree.proofs.filtering.harmless.Given as goal

abbrev pub invariant-loop-candidate : goal.invariant-loop-candidate
invariant-loop-candidate l = candidates_of l.out.items ++ filter (λ x. not (opposes x.is (get_or (places_of l.places) l.line no_place))) (candidates_of (drop l.candidate-index l.candidates)) ≡ filter (λ x. not (opposes x.is (get_or (places_of l.places) l.line no_place))) (candidates_of l.candidates)
