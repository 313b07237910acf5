use Rattle.std.proofs.Common.{◌∙◌, ap, map, sym}
use Rattle.choice_law.specs.Tree.{Choice}
use Rattle.choice_tree.specs.Open.{obligation_of}
use Rattle.choice_tree.specs.Options.{options}
use Rattle.choice_tree.specs.Steps.{after}
use Rattle.choice_tree.specs.Views.{universe_of}
use Rattle.choice_tree.specs.declared.universe.Universe.{Universe}
use Rattle.choice_walk.specs.Way.{here}
use Rattle.choice_walk.proofs.branching.options.Goals as goal

pub returns : goal.returns
returns c =
    let walk = c.in_ok-walk.walk in
    let u = c.args.universe.now in
    let o = obligation_of c.args.obligation.now in
    let there = c.in_ok-walk.ensures.here in
    c.in_ok-found.ensures
    ∙ (ap (map (after c.args.choice.now)) c.deref.ensures.value
    ∙ (ap (λ (e : Choice). map (after e) c.in_ok-steps.steps.items) (sym there)
    ∙ (c.in_ok-steps.ensures
    ∙ (ap (λ (v : Universe). options v.update (universe_of v) (here walk.trail.items) o) c.in_ok-walk.ensures.over
    ∙ ap (λ (e : Choice). options u.update (universe_of u) e o) there))))
