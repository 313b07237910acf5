use Rattle.std.proofs.Common.{◌≡◌, ◌∙◌, List, None, Some, ap, cond, sym}
use Rattle.std.specs.Prelude.{bytes_eq, string_bytes, ℕ}
use Rattle.std.specs.BTreeMap.{get_by_text}
use Rattle.std.proofs.lemmas.Map.Text.{btree_map_updates_text}
use Rattle.choice_tree.specs.Keys.{lines_at}
use Rattle.choice_tree.proofs.Under.{items_of, put_line}
use Rattle.choice_tree.proofs.keyed.put.Goals as goal
use Rattle.choice_tree.proofs.keyed.put.Goals.{in-Some, in-None}

pub returns : goal.returns
returns c =
    let name = c.args.text.now in
    let own = string_bytes c.in_ok-from_str.field-0 in
    let list : c.match-remove.list.items ≡ lines_at c.args.lists.now name = elim c.match-remove.branch [
      | in-Some w ↦ ap (λ v. v.items) w.list-is ∙ ap items_of (sym w.in-Some.is ∙ c.remove.ensures.value)
      | in-None w ↦ ap (λ v. v.items) w.list-is ∙ (w.new-list.ensures.items ∙ ap items_of (sym w.in-None.is ∙ c.remove.ensures.value))
    ] in
    put_line name c.args.lists.now c.remove.new.self c.insert.new.self c.match-remove.list c.push.new.self c.args.line list c.in_ok-push.ensures.items
    (btree_map_updates_text name c.args.lists.now c.remove.new.self None c.remove.ensures.updates)
    (λ q. btree_map_updates_text own c.remove.new.self c.insert.new.self (Some c.push.new.self) c.in_ok-insert.ensures.updates q
    ∙ ap (λ (n : List ℕ). cond (bytes_eq n q) (Some c.push.new.self) (get_by_text c.remove.new.self q)) c.in_ok-from_str.ensures.ok)
