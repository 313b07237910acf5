use Rattle.std.proofs.Common.{◌∙◌, List, ap}
use Rattle.std.specs.List.{list_any}
use Rattle.profile_lines.specs.declared.item.Item.{Item}
use Rattle.visible_rules.specs.Items.{has_match}
use Rattle.visible_rules.proofs.Naming.{match_under}
use Rattle.visible_rules.proofs.masks.Masks.any.Goals as goal

pub returns : goal.returns
returns c =
    c.any_match.ensures
    ∙ (match_under c.self.inside.items.now c.self.inside.named.lists c.args.facts.now c.text.result.now c.get.result.now c.self.invariant c.text.ensures.text c.get.ensures
    ∙ ap (λ (items : List Item). list_any (has_match c.args.facts.now) items) c.self.view_is)
