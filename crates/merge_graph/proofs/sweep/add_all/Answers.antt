use Rattle.std.proofs.Common.{◌∙◌, ap, inl, inr, sym}
use Rattle.std.specs.BTreeSet.{contains}
use Rattle.std.specs.Ordering.{nat_cmp}
use Rattle.std.specs.Prelude.{slice_index}
use Rattle.merge_graph.proofs.Checking.{has_more}
use Rattle.merge_graph.proofs.sweep.add_all.Goals as goal

pub loop-number-preserved : goal.loop-number-preserved
loop-number-preserved c = (
  λ x on. c.add.ensures.kept x (c.loop-number.invariant.0 x on),
  λ k has. elim (has_more c.args.numbers.now c.loop-number.number-index 0 k c.loop-number-test.true has) [
    | inl before ↦ c.add.ensures.kept (slice_index c.args.firsts.now k) (c.loop-number.invariant.1 k before)
    | inr now ↦ ap (contains nat_cmp c.add.new.ready) (ap (slice_index c.args.firsts.now) (sym now) ∙ sym c.number_at.ensures) ∙ c.in_ok-add.ensures.comes
  ],
)
