use Rattle.std.proofs.Common.{◌∙◌, Bool, List, length, sym, subst, ap}
use Rattle.std.proofs.lemmas.List.{length-set}
use Rattle.std.specs.Prelude.{slice_index}
use Rattle.merge_graph.specs.Certified.{AreMarkedReached}
use Rattle.merge_graph.proofs.Checking.{first_reached, marked_more}
use Rattle.merge_graph.proofs.checks.marked_firsts.Goals as goal

pub loop-first-preserved : goal.loop-first-preserved
loop-first-preserved c =
    let numbers = c.args.numbers.now in
    let firsts = c.args.firsts.now in
    let es = c.args.edges.now in
    let k = slice_index firsts c.loop-first.first-index in (
      ap length c.mark.ensures ∙ (length-set c.loop-first.marks.items k _ ∙ c.loop-first.invariant.0),
      subst (λ (ms : List Bool). AreMarkedReached numbers firsts es ms) (sym c.mark.ensures)
          (marked_more numbers firsts es c.loop-first.marks.items k c.loop-first.invariant.1 (first_reached numbers firsts es c.loop-first.first-index c.requires c.loop-first-test.true)),
    )
