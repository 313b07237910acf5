use Rattle.std.proofs.Common.{◌≡◌, List, ap, is_lt, map, rules, subst}
use Rattle.std.specs.List.Sorted.{IsPermutation}
use Rattle.std.proofs.lemmas.List.Sorted.{IsPermutation-map, answers_always, ranks_by}
use Rattle.pkg_state.specs.Package.{Package}
use Rattle.run_opening.specs.Order.{line_cmp}
use Rattle.run_opening.specs.declared.order.Lined.{Lined}
use Rattle.run_opening.proofs.Moved.{line_total, sorted_through}
use Rattle.run_opening.proofs.order.sorted.Goals as goal

abbrev package_of : Lined → Package
package_of l = l.pkg.now

pub returns : goal.returns
returns c = record {
  moved = subst (λ (xs : List Package). IsPermutation xs (map package_of c.sort_by.new.self.items)) c.in_ok-lined.ensures
      (IsPermutation-map package_of c.in_ok-lined.lined.items c.sort_by.new.self.items c.in_ok-sort_by.ensures.permutation);
  sorted = sorted_through package_of (λ p q. is_lt (line_cmp p q)) c.sort_by.new.self.items
      (c.in_ok-sort_by.ensures.sorted (λ a b. is_lt (line_cmp (package_of a) (package_of b))) (ranks_by line_total package_of)
      (answers_always _ (λ a r. is_lt r ≡ is_lt (line_cmp (package_of a.0.now) (package_of a.1.0.now))) _
      (λ f a r q k. let is : r ≡ line_cmp (package_of a.0.now) (package_of a.1.0.now) = search rules in ap is_lt is)));
}
