use Rattle.std.proofs.Common.{◌≡◌, ◌∙◌, ℕ, List, ap, arith, length, map, subst, sym, take}
use Rattle.std.proofs.Math.Seq.{take-length}
use Rattle.pkg_state.specs.Package.{Package}
use Rattle.law_commit.specs.Lit.{lit, packages_of}
use Rattle.run_opening.specs.Order.{AreInLineOrder}
use Rattle.run_opening.specs.declared.order.Lined.{Lined}
use Rattle.run_opening.proofs.Moved.{lit_order}
use Rattle.run_opening.proofs.order.in_line_order.Goals as goal

pub returns : goal.returns
returns c =
    let flags = c.args.implicit.now in
    let ls : List Lined = c.in_ok-lined.lined.items in
    let as_lit : Lined → Package = λ l. lit flags l.pkg.now in
    let items : List Lined = c.deref-one-items.result.now in
    let all : c.loop-one.one-index ≡ length items = omega (arith, c.loop-one-test.false, c.loop-one.auto.one-index-end) in
    let whole : take c.loop-one.one-index items ≡ items = ap (λ (n : ℕ). take n items) all ∙ take-length items in
    let copies : c.loop-one.copies.items ≡ map as_lit ls = c.loop-one.invariant ∙ ap (map as_lit) (whole ∙ c.deref-one-items.ensures.value) in
    subst (λ (qs : List Package). AreInLineOrder (packages_of flags c.args.packages.now) qs) (sym copies) (lit_order flags c.args.packages.now ls c.in_ok-lined.ensures)
