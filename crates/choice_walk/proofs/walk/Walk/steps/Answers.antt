use Rattle.std.proofs.Common.{◌∙◌, ap}
use Rattle.choice_tree.specs.Seen.{places_of}
use Rattle.choice_walk.specs.Way.{here}
use Rattle.choice_walk.proofs.walk.Walk.steps.Goals as goal

pub returns : goal.returns
returns c =
    let walk = c.args.self.now in
    c.in_ok-steps.ensures (here walk.trail.items) (ap places_of c.around.ensures ∙ walk.there) c.hold-held.ensures
