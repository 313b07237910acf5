use Rattle.std.proofs.Common.{◌≡◌, List, ap, is_lt, map, rules, subst}
use Rattle.std.specs.Borrow.{Bor}
use Rattle.std.specs.Cmp.Lexicographic.{nat_list_cmp_total}
use Rattle.std.specs.List.Sorted.{IsPermutation, IsStableByKey}
use Rattle.std.proofs.lemmas.List.Sorted.{IsPermutation-map, answers_always, ranks_by}
use Rattle.pms_names.specs.Flags.{byte_order}
use Rattle.vdb_contents.specs.Contents.{path_of}
use Rattle.vdb_contents.specs.declared.owned.Owned.{Owned}
use Rattle.vdb_files.proofs.Order.{is_below, owned_at, rising_through, stable_through}
use Rattle.vdb_files.proofs.contents.in_order.Goals as goal

pub returns : goal.returns
returns c =
    let weak = ranks_by nat_list_cmp_total (λ (o : Bor Owned). path_of (owned_at o)) in
    let compares = answers_always _ (λ a r. is_lt r ≡ is_below a.0.now a.1.0.now) _
    (λ f a r q k. let is : r ≡ byte_order (path_of (owned_at a.0.now)) (path_of (owned_at a.1.0.now)) = search rules in ap is_lt is) in
    record {
      all = subst (λ (xs : List Owned). IsPermutation xs (map owned_at c.sort_by.new.self.items)) c.in_ok-sorted.ensures
          (IsPermutation-map owned_at c.in_ok-sorted.sorted.items c.sort_by.new.self.items c.in_ok-sort_by.ensures.permutation);
      rising = rising_through c.sort_by.new.self.items (c.in_ok-sort_by.ensures.sorted is_below weak compares);
      stable = subst (λ (xs : List Owned). IsStableByKey path_of byte_order xs (map owned_at c.sort_by.new.self.items)) c.in_ok-sorted.ensures
          (stable_through c.in_ok-sorted.sorted.items c.sort_by.new.self.items (c.in_ok-sort_by.ensures.stable is_below weak compares));
    }
