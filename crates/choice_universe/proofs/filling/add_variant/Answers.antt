use Rattle.std.proofs.Common.{refl}
use Rattle.choice_universe.proofs.Filled.{changes, put_variant}
use Rattle.choice_universe.proofs.filling.add_variant.Goals as goal

pub returns : goal.returns
returns c = λ installed before filled.
    put_variant installed before c.args.variant c.in_ok-line.line c.args.offers.now.entries c.take_offer-offer.new.offers.entries c.insert.new.self.entries c.take_offer-offer.result _ c.in_ok-line.ensures c.take_offer-offer.ensures.offer
    refl c.in_ok-push.ensures.items c.take_offer-offer.ensures.others
    (changes c.in_ok-line.line c.take_offer-offer.new.offers.entries c.insert.new.self.entries _ c.in_ok-insert.ensures.updates.0)
    c.in_ok-insert.ensures.ordered filled
