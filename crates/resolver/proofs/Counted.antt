-- What the search meets.
use Rattle.std.proofs.Common.{◌≡◌, ◌≤◌, ℕ, Bool, List, [], length, subst, take}
use Rattle.basics.specs.Members.{Has}
use Rattle.choice_law.specs.Solutions.{IsSolution}
use Rattle.choice_law.specs.Tree.{Choice, decided}
use Rattle.choice_law.specs.Universe.{Universe}
use Rattle.choice_search.specs.Jumping.{LosesNothing}
use Rattle.choice_search.proofs.Parts.{has_of_first}
use Rattle.resolver.specs.Answers.{IsTooMany, met}
use Rattle.resolver.specs.Tree.{tree_shape}

pub too_many : (update : Bool) (u : Universe) (limit : ℕ) (refuted : List Choice) → LosesNothing (tree_shape update u) decided (IsSolution u) [] → refuted ≡ take limit (met update u) → limit ≤ length (met update u) → IsTooMany update u limit refuted
too_many update u limit refuted loses these many = record {
  these = these;
  many = many;
  before = loses.met_are;
  hopeless = λ c h. loses.dead c (has_of_first limit (met update u) c (subst (λ (cs : List Choice). Has cs c) these h));
  in_vain = λ c f h s agrees. loses.refuted c f (has_of_first limit (met update u) c (subst (λ (cs : List Choice). Has cs c) these h)) s agrees;
}
