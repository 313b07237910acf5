use Rattle.std.proofs.Common.{◌∙◌, List, ap, get_or, sym}
use Rattle.choice_law.specs.Possible.{is_hopeless}
use Rattle.choice_tree.specs.Open.{obligation_of}
use Rattle.choice_tree.specs.Places.{Place, no_place}
use Rattle.choice_tree.specs.declared.obligation.Obligation.{Obligation as TheObligation}
use Rattle.choice_walk.specs.Possible.{is_lost}
use Rattle.choice_walk.proofs.MayStand.{lost_are}
use Rattle.choice_walk.proofs.possible.is_hopeless.Goals as goal

pub returns-in-Tree : goal.returns-in-Tree
returns-in-Tree c u d there =
    let line = c.in-Tree.line in
    let class = c.in-Tree.class in
    c.is_lost_at.ensures
    ∙ (ap (λ (ss : List Place). is_lost ss class (get_or ss line no_place)) there
    ∙ (lost_are u d line class
    ∙ ap (λ (o : TheObligation). is_hopeless u d (obligation_of o)) (sym c.in-Tree.is)))
