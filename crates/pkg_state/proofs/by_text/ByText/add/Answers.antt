use Rattle.std.proofs.Common.{◌≡◌, ◌∙◌, None, Some, ap, sym}
use Rattle.std.proofs.lemmas.Map.Text.{btree_map_updates_str}
use Rattle.pkg_state.specs.Index.{listed}
use Rattle.pkg_state.proofs.Listed.{items_of, put_under}
use Rattle.pkg_state.proofs.by_text.ByText.add.Goals as goal
use Rattle.pkg_state.proofs.by_text.ByText.add.Goals.{in-Some, in-None}

pub returns : goal.returns
returns g c =
    let name = c.args.text.now in
    let list : c.match-remove.list.items ≡ listed c.args.self.now.lists name = elim c.match-remove.branch [
      | in-Some w ↦ ap (λ v. v.items) w.list-is ∙ ap items_of (sym w.in-Some.is ∙ c.remove.ensures.value)
      | in-None w ↦ ap (λ v. v.items) w.list-is ∙ (w.new-list.ensures.items ∙ ap items_of (sym w.in-None.is ∙ c.remove.ensures.value))
    ] in
    put_under name c.args.self.now.lists c.remove.new.self c.insert.new.self c.match-remove.list c.push.new.self c.args.item list c.in_ok-push.ensures.items
    (btree_map_updates_str name c.args.self.now.lists c.remove.new.self None c.remove.ensures.updates)
    (btree_map_updates_str name c.remove.new.self c.insert.new.self (Some c.push.new.self) c.in_ok-insert.ensures.updates)
