-- The code's candidates, in the words of the definitions.
use Rattle.std.specs.Prelude.{List, map}
use Rattle.choice_tree.specs.Candidates.{Candidate}
use Rattle.choice_tree.specs.Views.{value_of}
use Rattle.choice_tree.specs.declared.candidate.Candidate.{Candidate as TheCandidate}

abbrev pub candidate_of : TheCandidate → Candidate
candidate_of x = record { line = x.line; value = value_of x.value; is = x.owner.now }

abbrev pub candidates_of : List TheCandidate → List Candidate
candidates_of xs = map candidate_of xs
