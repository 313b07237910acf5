use Rattle.std.proofs.Common.{◌≡◌, ◌∙◌, ℕ, List, ap, is_lt, map, rules, string_bytes, subst, sym}
use Rattle.std.specs.Cmp.Lexicographic.{nat_list_cmp_total}
use Rattle.std.specs.List.Sorted.{IsPermutation}
use Rattle.std.proofs.lemmas.List.Sorted.{IsPermutation-map, answers_always, ranks_by}
use Rattle.basics.specs.Members.{AreDistinct}
use Rattle.pms_names.specs.Flags.{byte_order}
use Rattle.pkg_state.specs.Package.{Package}
use Rattle.plan_text.specs.Words.{rise}
use Rattle.merge_groups.specs.Lined.{IsLined}
use Rattle.merge_groups.specs.Order.{text_of}
use Rattle.merge_groups.specs.declared.order.Lined.{Lined}
use Rattle.merge_groups.proofs.Sorted.{all_moved, rise_sorted, texts_are}
use Rattle.merge_groups.proofs.order.in_text_order.Goals as goal

abbrev package_of : Lined → Package
package_of l = l.pkg.now

abbrev key : Lined → List ℕ
key l = string_bytes l.text

pub returns : goal.returns
returns c =
    let old = c.in_ok-all.all.items in
    let new = c.sort_by.new.self.items in
    let change = c.args.change in
    let perm = c.in_ok-sort_by.ensures.permutation in
    let sorted = c.in_ok-sort_by.ensures.sorted (λ a b. is_lt (byte_order (key a) (key b))) (ranks_by nat_list_cmp_total key)
    (answers_always _ (λ a r. is_lt r ≡ is_lt (byte_order (key a.0.now) (key a.1.0.now))) _
    (λ f a r q k. let is : r ≡ byte_order (key a.0.now) (key a.1.0.now) = search rules in ap is_lt is)) in
    let texts = texts_are key package_of (text_of change) in
    let apart : AreDistinct (map key old) = subst (λ (ts : List (List ℕ)). AreDistinct ts)
    (sym (texts old c.in_ok-all.ensures.texts ∙ ap (map (text_of change)) c.in_ok-all.ensures.pkgs)) c.requires in
    record {
      moved = subst (λ (xs : List Package). IsPermutation xs (map package_of new)) c.in_ok-all.ensures.pkgs (IsPermutation-map package_of old new perm);
      rising = sym (ap rise (texts new (all_moved (IsLined change) old new perm c.in_ok-all.ensures.texts))) ∙ rise_sorted key old new perm sorted apart;
    }
