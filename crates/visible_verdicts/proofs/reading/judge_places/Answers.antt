use Rattle.std.proofs.Common.{◌∙◌, ap, arith}
use Rattle.file_tree.specs.Disk.{Story}
use Rattle.visible_verdicts.proofs.Judged.{next_judged}
use Rattle.visible_verdicts.proofs.reading.judge_places.Goals as goal

pub loop-place-preserved : goal.loop-place-preserved
loop-place-preserved g c =
    let found = c.in_ok-verdict.ensures in (
      λ t. next_judged (g.T.Tree.story c.args.tree.now).now.holds (g.T.Tree.story c.loop-place.tree).now.holds c.args.rules.now c.args.places.now c.loop-place.place-index c.place-item.result
          c.loop-place.candidates.visible.items c.add.new.self.visible.items c.loop-place.candidates.hidden.items c.add.new.self.hidden.items c.in_ok-verdict.verdict c.loop-place-test.true c.place-item.is
          (ap (λ (s : Story). s.now.holds) (c.loop-place.invariant.1 t)) (found.found t) c.in_ok-add.ensures.visible c.in_ok-add.ensures.hidden (c.loop-place.invariant.0 t),
      λ t. found.same t ∙ c.loop-place.invariant.1 t,
      omega (arith, found.faults.later, c.loop-place.invariant.2),
    )
