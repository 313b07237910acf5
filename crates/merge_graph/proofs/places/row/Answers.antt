use Rattle.std.proofs.Common.{◌∙◌, ap}
use Rattle.merge_graph.proofs.RowLemmas.{row_with, row_without}
use Rattle.merge_graph.proofs.places.row.Goals as goal
use Rattle.merge_graph.proofs.places.row.Goals.{then-other-number+in_ok-push, else-other-number}

pub loop-at-preserved : goal.loop-at-preserved
loop-at-preserved c = elim c.if-other-number.branch [
  | then-other-number+in_ok-push w ↦ ap (λ v. v.items) w.row-is ∙ (w.in_ok-push.ensures.items ∙ row_with c.args.numbers.now c.loop-at.row.items c.loop-at.at c.args.number c.loop-at-test.true c.loop-at.invariant w.if-other-number.true)
  | else-other-number w ↦ ap (λ v. v.items) w.row-is ∙ row_without c.args.numbers.now c.loop-at.row.items c.loop-at.at c.args.number c.loop-at-test.true c.loop-at.invariant w.if-other-number.false
]
