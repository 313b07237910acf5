use Rattle.std.proofs.Common.{◌∙◌}
use Rattle.choice_tree.specs.Seen.{places_of}
use Rattle.choice_tree.specs.Views.{universe_of}
use Rattle.choice_walk.proofs.Way.{before_on, way_on}
use Rattle.choice_walk.proofs.walk.Walk.decide.Goals as goal

pub invariant_of-self-in-Ok : goal.invariant_of-self-in-Ok
invariant_of-self-in-Ok c =
    let walk = c.args.self.now in
    let u = universe_of walk.universe.now in
    let trail = walk.trail.items in
    let longer = c.push.new.self.items in
    record {
      offered = c.turn.ensures.offers ∙ walk.offered;
      are_named = walk.are_named;
      are_told = walk.are_told;
      are_leaves = walk.are_leaves;
      are_settled = c.turn.ensures.settled;
      there = way_on u trail longer _ (places_of walk.places.items) (places_of c.turn.new.places.items) c.in_ok-push.ensures.items walk.there c.in-Ok.ensures.done;
      before = before_on u trail longer _ c.in_ok-push.ensures.items walk.before c.decided-before.ensures;
    }
