use denote.Ref.{Bor}
use Rattle.std.proofs.Common.{◌∙◌, List, ap, filter, map, ℕ}
use Rattle.std.proofs.lemmas.Result.{IfOk-weaker}
use Rattle.profile_lines.specs.declared.item.Item.{Item}
use Rattle.visible_rules.specs.Items.{changes_for}
use Rattle.visible_rules.specs.Near.{is_near}
use Rattle.visible_rules.proofs.Weaving.{changes_near}
use Rattle.visible_rules.proofs.flags.FlagItems.changes_for.Goals as goal

pub returns : goal.returns
returns c =
    let items : List Item = c.self.inside.items.now in
    let near = ap (map (λ (i : Bor Item). i.now)) c.deref.ensures.value ∙ (c.in_ok-near.ensures items c.self.invariant ∙ ap (λ (n : List ℕ). filter (is_near n) items) c.text.ensures.text) in
    IfOk-weaker c.changes_among.result _ _
    (λ v is. is ∙ (ap (changes_for c.args.facts.now) near ∙ (changes_near c.args.facts.now items ∙ ap (changes_for c.args.facts.now) c.self.view_is)))
    c.changes_among.ensures
