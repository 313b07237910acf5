use Rattle.std.proofs.Common.{List, subst, sym}
use Rattle.std.specs.List.{AllZip}
use Rattle.profile_lines.specs.declared.item.Item.{Item}
use Rattle.visible_set.specs.Configured.{IsLineOf}
use Rattle.visible_set.proofs.OfferLemmas.{items_more}
use Rattle.visible_set.proofs.rules.lines_of.Goals as goal

pub loop-item-preserved : goal.loop-item-preserved
loop-item-preserved c = subst (λ (l : List Item). AllZip IsLineOf l c.add_line.new.lines.items) (sym (items_more c.args.items.now c.loop-item.item-index c.item-item.result c.loop-item-test.true c.item-item.is)) (c.in_ok-add_line.ensures _ c.loop-item.invariant)
