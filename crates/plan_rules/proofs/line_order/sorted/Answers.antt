use Rattle.std.proofs.Common.{◌≡◌, ℕ, List, ap, is_lt, map, rules, subst}
use Rattle.std.proofs.lemmas.Cmp.{nat_list_cmp_total}
use Rattle.std.proofs.lemmas.List.Sorted.{answers_always, ranks_by}
use Rattle.pms_names.specs.Flags.{byte_order}
use Rattle.pkg_state.specs.Package.{Package}
use Rattle.plan_rules.specs.Order.{AreInOrder, package_key}
use Rattle.plan_rules.specs.declared.line_order.Lined.{Lined}
use Rattle.plan_rules.proofs.Sorting.{in_order}
use Rattle.plan_rules.proofs.line_order.sorted.Goals as goal

abbrev package_of : Lined → Package
package_of l = l.pkg.now

abbrev key : Lined → List ℕ
key l = package_key l.pkg.now

pub returns : goal.returns
returns c =
    let old = c.in_ok-lined.lined.items in
    let new = c.sort_by.new.self.items in
    let by = answers_always _ (λ a r. is_lt r ≡ is_lt (byte_order (key a.0.now) (key a.1.0.now))) _ (λ f a r q k. let is : r ≡ byte_order (key a.0.now) (key a.1.0.now) = search rules in ap is_lt is) in
    subst (λ (xs : List Package). AreInOrder package_key xs (map package_of new)) c.in_ok-lined.ensures
    (in_order package_of package_key old new c.in_ok-sort_by.ensures.permutation
    (c.in_ok-sort_by.ensures.stable (λ a b. is_lt (byte_order (key a) (key b))) (ranks_by nat_list_cmp_total key) by)
    (c.in_ok-sort_by.ensures.sorted (λ a b. is_lt (byte_order (key a) (key b))) (ranks_by nat_list_cmp_total key) by))
