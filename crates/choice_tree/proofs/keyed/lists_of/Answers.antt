use Rattle.std.proofs.Common.{◌∙◌, ap, arith, map, sym}
use Rattle.choice_law.specs.Universe.{no_offer}
use Rattle.choice_tree.specs.Views.{offer_of}
use Rattle.choice_tree.proofs.Numbers.{get_mapped}
use Rattle.choice_tree.proofs.Under.{keyed_more}
use Rattle.choice_tree.proofs.keyed.lists_of.Goals as goal

pub loop-line-preserved : goal.loop-line-preserved
loop-line-preserved c =
    let offers = c.args.offers.now in
    let l = c.loop-line.line in
    let x = c.index-offers-line.result in
    keyed_more c.args.key (map offer_of offers) l (offer_of x) c.loop-line.lists c.add_offer.new.lists
    (ap offer_of c.index-offers-line.is ∙ sym (get_mapped offer_of offers l x no_offer (omega arith)))
    c.loop-line.invariant c.in_ok-add_offer.ensures
