use Rattle.std.proofs.Common.{take}
use Rattle.resolver.specs.Form.{AreOffers}
use Rattle.resolver.proofs.form.offers_are_plain.Given as goal

abbrev pub invariant-loop-offer : goal.invariant-loop-offer
invariant-loop-offer l = AreOffers (take l.offer-index l.offers)
