use Rattle.std.proofs.Common.{List, subst}
use Rattle.pkg_state.specs.Package.{Package}
use Rattle.resolver.specs.Form.{ArePlain}
use Rattle.resolver.proofs.Offers.{offer_plain}
use Rattle.resolver.proofs.form.offer_is_plain.Goals as goal

pub returns : goal.returns
returns c = offer_plain c.args.offer.now c.one_if_any.ensures (subst (λ (ps : List Package). ArePlain ps) c.deref.ensures.value c.all_are_plain.ensures)
