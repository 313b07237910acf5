use Rattle.std.proofs.Common.{◌∙◌, arith}
use Rattle.std.proofs.lemmas.Result.{err_from_is_err_and}
use Rattle.merge_journal.proofs.Verdicts.{stages_end, stages_err, stages_on}
use Rattle.merge_journal.proofs.judging.judge_stages.Goals as goal

pub returns-in_err-judge_stage-clause-answer : goal.returns-in_err-judge_stage-clause-answer
returns-in_err-judge_stage-clause-answer g c =
    let p = err_from_is_err_and c.from_residual.result c.from_residual.ensures.1 in
    λ tells. rw (p.1, p.2) (stages_err (g.T.Tree.story c.args.tree.now) (g.T.Tree.story c.loop-index.tree) c.args.group c.loop-index.index c.args.placements.now c.index-placements-index.result _ (c.loop-index.invariant.0 tells) c.loop-index-test.true c.index-placements-index.is (c.in_err-judge_stage.ensures.answer tells) (c.loop-index.invariant.2 tells))

pub loop-index-preserved : goal.loop-index-preserved
loop-index-preserved g c = (
  λ tells. c.judge_stage.ensures.same tells ∙ c.loop-index.invariant.0 tells,
  omega (arith, c.judge_stage.ensures.faults.later, c.loop-index.invariant.1),
  λ tells. stages_on (g.T.Tree.story c.args.tree.now) (g.T.Tree.story c.loop-index.tree) c.args.group c.loop-index.index c.args.placements.now c.index-placements-index.result (c.loop-index.invariant.0 tells) c.loop-index-test.true c.index-placements-index.is (c.in_ok-judge_stage.ensures.answer tells) (c.loop-index.invariant.2 tells),
)

pub returns-clause-answer : goal.returns-clause-answer
returns-clause-answer g c =
    λ tells. c.loop-index.invariant.2 tells ∙ stages_end (g.T.Tree.story c.args.tree.now).now.holds c.args.group c.loop-index.index c.args.placements.now c.loop-index-test.false
