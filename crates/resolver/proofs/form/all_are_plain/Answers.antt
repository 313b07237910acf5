use Rattle.std.proofs.Common.{inl, inr, subst}
use Rattle.pkg_state.specs.Package.{Package}
use Rattle.resolver.specs.Form.{IsPlain}
use Rattle.resolver.proofs.Offers.{one_more}
use Rattle.resolver.proofs.form.all_are_plain.Goals as goal

pub loop-one-preserved : goal.loop-one-preserved
loop-one-preserved c = λ p h.
    elim (one_more c.args.all.now c.loop-one.one-index c.one-item.result p c.loop-one-test.true c.one-item.is h) [
      | inl k ↦ c.loop-one.invariant p k
      | inr e ↦ subst (λ (q : Package). IsPlain q) e c.package_is_plain.ensures
    ]
