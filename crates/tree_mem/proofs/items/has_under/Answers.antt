use Rattle.std.proofs.Common.{◌≡◌, false, ◌∙◌, ap, sym, nat_lt, length, rules}
use Rattle.std.specs.Prelude.{nat_eq}
use Rattle.std.specs.List.{starts_with}
use Rattle.tree_mem.specs.Items.{Item}
use Rattle.tree_mem.proofs.Below.{has_under-end, has_under-first}
use Rattle.tree_mem.proofs.items.has_under.Goals as goal

pub returns-then-at-items : goal.returns-then-at-items
returns-then-at-items c = has_under-first _ _ _ c.index-items-at.result _ c.requires.rising c.start-at.ensures c.if-at-items.true c.index-items-at.is (c.begins.ensures ∙ ap (λ (e : Item). starts_with nat_eq e.0 c.args.text.now) (sym c.index-items-at.is))

pub returns-else-at-items : goal.returns-else-at-items
returns-else-at-items c =
    let no : nat_lt c.start-at.result (length c.args.items.now) ≡ false = search rules in
    has_under-end _ _ _ _ c.requires.rising c.start-at.ensures c.if-at-items.false no
