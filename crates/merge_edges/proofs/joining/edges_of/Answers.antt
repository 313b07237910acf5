use Rattle.std.proofs.Common.{◌∙◌, ap}
use Rattle.choice_tree.specs.Keys.{offers_in}
use Rattle.choice_tree.specs.Seen.{places_of}
use Rattle.choice_tree.specs.Views.{universe_of}
use Rattle.choice_tree.proofs.Turned.{offers_placed}
use Rattle.merge_edges.proofs.joining.edges_of.Goals as goal

pub edges_over-requires-clause-after : goal.edges_over-requires-clause-after
edges_over-requires-clause-after c = ap (λ ps. offers_in (places_of ps)) c.deref-2.ensures.value ∙ (ap offers_in c.in_ok-after.ensures ∙ offers_placed (universe_of c.args.universe.now) c.args.choice.now)

pub returns-clause-edges : goal.returns-clause-edges
returns-clause-edges c = (c.in_ok-edges.ensures c.args.choice.now (ap places_of c.deref-2.ensures.value ∙ c.in_ok-after.ensures)).0

pub returns-clause-between : goal.returns-clause-between
returns-clause-between c = (c.in_ok-edges.ensures c.args.choice.now (ap places_of c.deref-2.ensures.value ∙ c.in_ok-after.ensures)).1
