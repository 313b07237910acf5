use Rattle.std.proofs.Common.{◌∙◌, ◌-◌, ℕ, ap, sym, take}
use Rattle.choice_tree.specs.Seen.{places_of}
use Rattle.choice_tree.specs.Views.{universe_of}
use Rattle.choice_walk.proofs.Way.{before_back, last_off, way_back}
use Rattle.choice_walk.proofs.walk.Walk.undo.Goals as goal

pub invariant_of-self-2 : goal.invariant_of-self-2
invariant_of-self-2 c =
    let walk = c.args.self.now in
    let u = universe_of walk.universe.now in
    let trail = walk.trail.items in
    let gone = c.in-Some.gone in
    let less = c.pop.new.self.items in
    let e = c.in-Some.ensures.some in
    let is = last_off trail less e.0 gone (sym c.deref.ensures.value ∙ e.1) (c.pop.ensures.rest ∙ ap (λ (n : ℕ). take (n - 1) trail) walk.trail.ok.0) in
    record {
      offered = c.turn.ensures.offers ∙ walk.offered;
      are_named = walk.are_named;
      are_told = walk.are_told;
      are_leaves = walk.are_leaves;
      are_settled = c.turn.ensures.settled;
      there = way_back u trail less gone (places_of walk.places.items) (places_of c.turn.new.places.items) is walk.there walk.before c.in_ok-turn.ensures.done;
      before = before_back u trail less gone is walk.before;
    }
