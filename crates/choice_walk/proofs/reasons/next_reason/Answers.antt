use Rattle.std.proofs.Common.{◌∙◌, ap}
use Rattle.choice_tree.specs.Tree.{tree_reason}
use Rattle.choice_tree.specs.Views.{universe_of}
use Rattle.choice_tree.specs.declared.universe.Universe.{Universe}
use Rattle.choice_walk.specs.Way.{here}
use Rattle.choice_walk.proofs.reasons.next_reason.Goals as goal

pub returns : goal.returns
returns c =
    let walk = c.in_ok-walk.walk in
    c.in_ok-lines.ensures.found
    ∙ (ap (λ (u : Universe). tree_reason (universe_of u) (here walk.trail.items)) c.in_ok-walk.ensures.over
    ∙ ap (tree_reason (universe_of c.args.universe.now)) c.in_ok-walk.ensures.here)
