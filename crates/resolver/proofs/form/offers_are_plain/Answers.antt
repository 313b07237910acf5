use Rattle.std.proofs.Common.{◌≡◌, Some, inl, inr, subst}
use Rattle.pkg_state.specs.Package.{Package}
use Rattle.choice_law.specs.Universe.{Value, package_of}
use Rattle.choice_tree.specs.Views.{offer_of}
use Rattle.choice_tree.specs.declared.universe.Offer.{Offer}
use Rattle.resolver.specs.Form.{IsPlain}
use Rattle.resolver.proofs.Offers.{one_more}
use Rattle.resolver.proofs.form.offers_are_plain.Goals as goal

pub loop-offer-preserved : goal.loop-offer-preserved
loop-offer-preserved c = λ o h.
    elim (one_more c.args.offers.now c.loop-offer.offer-index c.offer-item.result o c.loop-offer-test.true c.offer-item.is h) [
      | inl k ↦ c.loop-offer.invariant o k
      | inr e ↦ subst (λ (o : Offer). (v : Value) (p : Package) → package_of (offer_of o) v ≡ Some p → IsPlain p) e c.offer_is_plain.ensures
    ]
