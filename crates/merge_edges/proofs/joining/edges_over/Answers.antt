use Rattle.std.proofs.Common.{◌∙◌, [], ap, subst, sym}
use Rattle.choice_tree.specs.Keys.{AreKeyed, offers_in}
use Rattle.choice_tree.specs.Seen.{places_of}
use Rattle.choice_tree.specs.Views.{universe_of}
use Rattle.choice_tree.specs.declared.key.Key.TheVariants.{Own, Whole}
use Rattle.choice_tree.proofs.Turned.{offers_placed}
use Rattle.merge_edges.proofs.Edged.{made_edges}
use Rattle.merge_edges.proofs.joining.edges_over.Goals as goal

pub edges_between-requires-clause-named : goal.edges_between-requires-clause-named
edges_between-requires-clause-named c =
    subst (λ os. AreKeyed Own os c.in_ok-named.named.lists) (sym (ap offers_in c.requires.before ∙ offers_placed (universe_of c.args.universe.now) [])) c.in_ok-named.ensures

pub edges_between-requires-clause-told : goal.edges_between-requires-clause-told
edges_between-requires-clause-told c =
    subst (λ os. AreKeyed Whole os c.in_ok-told.told.lists) (sym (ap offers_in c.requires.before ∙ offers_placed (universe_of c.args.universe.now) [])) c.in_ok-told.ensures

pub edges_between-requires-clause-offers : goal.edges_between-requires-clause-offers
edges_between-requires-clause-offers c =
    ap offers_in c.requires.before ∙ (offers_placed (universe_of c.args.universe.now) [] ∙ sym c.requires.after)

pub returns : goal.returns
returns c = λ d is.
    made_edges (universe_of c.args.universe.now) d (places_of c.args.before.now) (places_of c.args.after.now) c.in_ok-edges.edges.items c.versions_are.ensures c.versions_are-2.ensures c.requires.before is c.in_ok-edges.ensures
