use Rattle.std.proofs.Common.{◌≡◌, ◌∙◌, ℕ, List, ap, arith, length, map, subst, sym, take}
use Rattle.std.proofs.Math.Seq.{take-length}
use Rattle.pkg_state.specs.Package.{Package}
use Rattle.plan_rules.specs.Order.{AreInOrder, package_key}
use Rattle.plan_rules.specs.declared.line_order.Lined.{Lined}
use Rattle.plan_rules.proofs.line_order.in_line_order.Goals as goal

pub returns : goal.returns
returns c =
    let items : List Lined = c.deref-one-items.result.now in
    let all : c.loop-one.one-index ≡ length items = omega (arith, c.loop-one-test.false, c.loop-one.auto.one-index-end) in
    let whole : take c.loop-one.one-index items ≡ items = ap (λ (n : ℕ). take n items) all ∙ take-length items in
    let copies : c.loop-one.copies.items ≡ map (λ (l : Lined). l.pkg.now) c.in_ok-lined.lined.items = c.loop-one.invariant ∙ ap (map (λ (l : Lined). l.pkg.now)) (whole ∙ c.deref-one-items.ensures.value) in
    subst (λ (qs : List Package). AreInOrder package_key c.args.packages.now qs) (sym copies) c.in_ok-lined.ensures
