use Rattle.std.proofs.Common.{◌∙◌, List, ap, sym}
use Rattle.pkg_state.specs.Consistent.{facts_of}
use Rattle.pkg_state.specs.Fault.{lacking_leaf}
use Rattle.pkg_state.specs.Package.{Package}
use Rattle.choice_tree.specs.Places.{Place}
use Rattle.choice_tree.specs.Seen.{places_of}
use Rattle.choice_tree.specs.Views.{universe_of}
use Rattle.choice_walk.specs.Possible.{judged_in}
use Rattle.choice_walk.specs.Way.{here}
use Rattle.choice_walk.proofs.MayStand.{judged_are}
use Rattle.choice_walk.proofs.walk.Walk.lacking_leaf.Goals as goal

pub returns : goal.returns
returns c =
    let walk = c.args.self.now in
    let one = c.args.one.now in
    let class = c.args.class in
    c.lacking_leaf.ensures
    ∙ (ap (λ (ss : List Place). lacking_leaf (facts_of (judged_in ss class one)) class one) (ap places_of c.around.ensures ∙ walk.there)
    ∙ ap (λ (ps : List Package). lacking_leaf (facts_of ps) class one) (sym (judged_are (universe_of walk.universe.now) (here walk.trail.items) class one)))
