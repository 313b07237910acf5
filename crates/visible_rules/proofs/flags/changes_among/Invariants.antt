use Rattle.std.proofs.Common.{◌≡◌, map, take}
use Rattle.visible_rules.specs.Items.{changes_for}
use Rattle.visible_rules.proofs.flags.changes_among.Given as goal

abbrev pub invariant-loop-item : goal.invariant-loop-item
invariant-loop-item l = map (λ c. c.now) l.changes.items ≡ changes_for l.facts (map (λ i. i.now) (take l.item-index l.items))
