use Rattle.std.proofs.Common.{[], ap, subst}
use Rattle.choice_law.specs.Tree.{Choice}
use Rattle.choice_tree.specs.Views.{universe_of}
use Rattle.choice_tree.specs.declared.universe.Universe.{Universe}
use Rattle.choice_walk.specs.Way.{here}
use Rattle.choice_search.specs.Visit.{IsOutcome, visit}
use Rattle.resolver.specs.Tree.{tree_shape}
use Rattle.resolver.proofs.resolving.search.Goals as goal

pub returns-clause-outcome : goal.returns-clause-outcome
returns-clause-outcome c =
    let over = c.in_ok-walk.walk.universe.now in
    subst (λ (u : Universe). IsOutcome (visit (tree_shape u.update (universe_of u)) []) c.args.backtrack c.in_ok-outcome.outcome) c.in_ok-walk.ensures.over
    (subst (λ (root : Choice). IsOutcome (visit (tree_shape over.update (universe_of over)) root) c.args.backtrack c.in_ok-outcome.outcome) (ap here c.in_ok-walk.ensures.trail) c.in_ok-outcome.ensures.outcome)
