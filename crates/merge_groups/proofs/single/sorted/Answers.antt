use Rattle.std.proofs.Common.{◌≡◌, ◌∙◌, List, ap, map, subst, sym}
use Rattle.std.specs.List.{AllByRecursion}
use Rattle.basics.specs.Members.{AreDistinct}
use Rattle.pkg_state.specs.Package.{Package}
use Rattle.choice_tree.specs.Views.{universe_of}
use Rattle.merge_groups.specs.Changes.{those}
use Rattle.merge_groups.specs.Named.{IsNamed}
use Rattle.merge_groups.specs.Order.{text_of}
use Rattle.merge_groups.proofs.Apart.{lines_apart, texts_apart}
use Rattle.merge_groups.proofs.single.sorted.Goals as goal

pub in_text_order-requires : goal.in_text_order-requires
in_text_order-requires c =
    let u = universe_of c.args.universe.now in
    let part = c.args.part in
    let ps = those part u c.args.choice.now in
    let sorted : map (λ p. p.now) c.deref-2.result.now ≡ ps = ap (map (λ p. p.now)) c.deref-2.ensures.value ∙ c.in_ok-all.ensures in
    let seen : map (λ p. p.now) c.deref.result.now ≡ ps = ap (map (λ p. p.now)) c.deref.ensures.value ∙ c.in_ok-all.ensures in
    subst (λ (qs : List Package). AreDistinct (map (text_of c.args.change) qs)) (sym sorted)
    (texts_apart c.one_plan.ensures c.args.change ps (subst (λ (qs : List Package). AllByRecursion IsNamed qs) seen c.packages_are_named.ensures)
    (lines_apart part u c.args.choice.now c.requires))
