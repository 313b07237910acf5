use Rattle.std.proofs.Common.{◌+◌, List, ℕ, refl, subst, sym, take}
use Rattle.merge_graph.specs.Rows.{AreRows}
use Rattle.merge_graph.proofs.RowLemmas.{rows_more}
use Rattle.merge_graph.proofs.places.rows.Goals as goal

pub loop-at-preserved : goal.loop-at-preserved
loop-at-preserved c =
    subst (λ (rs : List (List ℕ)). AreRows (take (c.loop-at.at + 1) c.args.numbers.now) c.args.count rs) (sym c.in_ok-put.ensures)
    (rows_more c.args.numbers.now c.args.count _ c.loop-at.at _ c.loop-at-test.true refl c.loop-at.invariant)
