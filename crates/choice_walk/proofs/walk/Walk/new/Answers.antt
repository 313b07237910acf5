use Rattle.std.proofs.Common.{◌∙◌, ap, rules, sym}
use Rattle.choice_tree.specs.Keys.{offers_in}
use Rattle.choice_tree.specs.Places.{places}
use Rattle.choice_tree.specs.Views.{universe_of}
use Rattle.choice_tree.proofs.Turned.{offers_placed}
use Rattle.choice_walk.specs.Way.{here}
use Rattle.choice_walk.proofs.Unsettled.{none_settled}
use Rattle.choice_walk.proofs.Way.{none_before}
use Rattle.choice_walk.proofs.walk.Walk.new.Goals as goal

pub invariant_of-result : goal.invariant_of-result
invariant_of-result c = record {
  offered = ap offers_in c.in_ok-places.ensures ∙ offers_placed (universe_of c.args.universe.now) _;
  are_named = c.in_ok-named.ensures;
  are_told = c.in_ok-told.ensures;
  are_leaves = c.in_ok-leaves.ensures;
  are_settled = none_settled c.in_ok-places.places.items c.len.result c.in_ok-unsettled.unsettled (search rules) c.in_ok-unsettled.ensures;
  there = c.in_ok-places.ensures ∙ ap (places (universe_of c.args.universe.now)) (c.new-nothing.ensures ∙ sym (ap here c.new-trail.ensures.items));
  before = none_before (universe_of c.args.universe.now) c.new-trail.result.items c.new-trail.ensures.items;
}
