use Rattle.std.proofs.Common.{◌∙◌, ap}
use Rattle.choice_tree.specs.Open.{first_open}
use Rattle.choice_tree.specs.Views.{universe_of}
use Rattle.choice_tree.specs.declared.universe.Universe.{Universe}
use Rattle.choice_walk.specs.Way.{here}
use Rattle.choice_walk.proofs.taking_up.first_open.Goals as goal

pub returns : goal.returns
returns c =
    let walk = c.in_ok-walk.walk in
    c.in_ok-found.ensures.found
    ∙ (ap (λ (u : Universe). first_open (universe_of u) (here walk.trail.items)) c.in_ok-walk.ensures.over
    ∙ ap (first_open (universe_of c.args.universe.now)) c.in_ok-walk.ensures.here)
