use Rattle.std.proofs.Common.{List, subst}
use Rattle.choice_tree.specs.declared.universe.Offer.{Offer}
use Rattle.resolver.specs.Form.{AreOffers}
use Rattle.resolver.proofs.Offers.{universe_plain}
use Rattle.resolver.proofs.form.universe_is_plain.Goals as goal

pub returns : goal.returns
returns c = universe_plain c.args.universe.now (subst (λ (os : List Offer). AreOffers os) c.deref.ensures.value c.offers_are_plain.ensures)
