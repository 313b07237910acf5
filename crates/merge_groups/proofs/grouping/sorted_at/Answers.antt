use Rattle.std.proofs.Common.{◌≡◌, ◌∙◌, List, ap, map, subst, sym}
use Rattle.std.specs.List.{AllByRecursion}
use Rattle.basics.specs.Members.{AreDistinct}
use Rattle.pkg_state.specs.Package.{Package}
use Rattle.merge_edges.specs.Views.{change_of}
use Rattle.merge_groups.specs.Grouped.{those_at}
use Rattle.merge_groups.specs.Named.{IsNamed}
use Rattle.merge_groups.specs.Order.{text_of}
use Rattle.merge_groups.proofs.Apart.{texts_apart}
use Rattle.merge_groups.proofs.Picked.{distinct_at, rising_distinct}
use Rattle.merge_groups.proofs.grouping.sorted_at.Goals as goal

pub in_text_order-requires : goal.in_text_order-requires
in_text_order-requires c =
    let cs = map change_of c.args.changes.now in
    let places = c.args.places.now in
    let ps = those_at c.args.side cs places in
    let sorted : map (λ p. p.now) c.deref-2.result.now ≡ ps = ap (map (λ p. p.now)) c.deref-2.ensures.value ∙ c.in_ok-all.ensures in
    let seen : map (λ p. p.now) c.deref.result.now ≡ ps = ap (map (λ p. p.now)) c.deref.ensures.value ∙ c.in_ok-all.ensures in
    subst (λ (qs : List Package). AreDistinct (map (text_of c.args.side) qs)) (sym sorted)
    (texts_apart c.one_plan.ensures c.args.side ps (subst (λ (qs : List Package). AllByRecursion IsNamed qs) seen c.packages_are_named.ensures)
    (distinct_at c.args.side cs c.requires.apart places (rising_distinct places c.requires.rising)))
