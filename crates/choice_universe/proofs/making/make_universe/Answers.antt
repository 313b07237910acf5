use Rattle.std.proofs.Common.{List, map, subst, sym}
use Rattle.choice_tree.specs.Views.{offer_of}
use Rattle.choice_tree.specs.declared.universe.Offer.{Offer as TheOffer}
use Rattle.choice_universe.specs.Offers.{AreOffers, variants_of}
use Rattle.choice_universe.proofs.Filled.{none_yet}
use Rattle.choice_universe.proofs.Listed.{are_offers}
use Rattle.choice_universe.proofs.making.make_universe.Goals as goal

pub returns-clause-offers : goal.returns-clause-offers
returns-clause-offers c =
    let variants = variants_of c.args.candidates.items in
    let empty = none_yet c.new-offers.result.entries c.new-offers.ensures.empty c.new-offers.ensures.ordered in
    let filled = c.in_ok-add_candidates.ensures c.args.installed.now (c.in_ok-add_installed.ensures empty) in
    subst (λ (l : List TheOffer). AreOffers c.args.installed.now variants (map offer_of l)) (sym c.in_ok-offers.ensures)
    (are_offers c.args.installed.now variants c.add_candidates.new.offers.entries filled)
