use Rattle.std.proofs.Common.{◌≡◌, ℕ, List, ap, is_lt, map, rules, subst}
use Rattle.std.proofs.lemmas.Cmp.{nat_list_cmp_total}
use Rattle.std.proofs.lemmas.List.Sorted.{answers_always, ranks_by}
use Rattle.pms_names.specs.Flags.{byte_order}
use Rattle.plan_law.specs.Plans.{Removal, removed_line}
use Rattle.plan_rules.specs.Order.{AreInOrder}
use Rattle.plan_rules.specs.declared.presence.Going.{Going}
use Rattle.plan_rules.proofs.Sorting.{in_order}
use Rattle.plan_rules.proofs.presence.in_line_order.Goals as goal

abbrev removal_of : Going → Removal
removal_of l = l.removal.now

abbrev key : Going → List ℕ
key l = removed_line l.removal.now

pub returns : goal.returns
returns c =
    let old = c.in_ok-all.all.items in
    let new = c.sort_by.new.self.items in
    let by = answers_always _ (λ a r. is_lt r ≡ is_lt (byte_order (key a.0.now) (key a.1.0.now))) _ (λ f a r q k. let is : r ≡ byte_order (key a.0.now) (key a.1.0.now) = search rules in ap is_lt is) in
    subst (λ (xs : List Removal). AreInOrder removed_line xs (map removal_of new)) c.in_ok-all.ensures
    (in_order removal_of removed_line old new c.in_ok-sort_by.ensures.permutation
    (c.in_ok-sort_by.ensures.stable (λ a b. is_lt (byte_order (key a) (key b))) (ranks_by nat_list_cmp_total key) by)
    (c.in_ok-sort_by.ensures.sorted (λ a b. is_lt (byte_order (key a) (key b))) (ranks_by nat_list_cmp_total key) by))
