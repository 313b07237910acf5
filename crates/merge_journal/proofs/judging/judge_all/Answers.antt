use Rattle.std.proofs.Common.{◌∙◌, arith, []}
use Rattle.std.proofs.lemmas.Result.{err_from_is_err_and}
use Rattle.merge_journal.specs.Judging.{judged_all}
use Rattle.merge_journal.proofs.Verdicts.{all_end, all_err, all_on}
use Rattle.merge_journal.proofs.Form.{applicable_more}
use Rattle.merge_journal.proofs.judging.judge_all.Goals as goal

pub returns-in_err-judge-clause-answer : goal.returns-in_err-judge-clause-answer
returns-in_err-judge-clause-answer g c =
    let p = err_from_is_err_and c.from_residual.result c.from_residual.ensures.1 in
    λ tells. rw (p.1, p.2) (all_err (g.T.Tree.story c.args.tree.now) (g.T.Tree.story c.loop-group.tree) c.loop-group.taken c.args.groups.now c.loop-group.group-index c.loop-group.records.items _ (judged_all (g.T.Tree.story c.args.tree.now).now.holds [] c.args.groups.now)
    (c.loop-group.invariant.0 tells) c.loop-group-test.true (c.in_err-judge.ensures.answer tells) (c.loop-group.invariant.2 tells))

pub loop-group-preserved : goal.loop-group-preserved
loop-group-preserved g c = (
  λ tells. c.judge.ensures.same tells ∙ c.loop-group.invariant.0 tells,
  omega (arith, c.judge.ensures.faults.later, c.loop-group.invariant.1),
  λ tells. rw c.in_ok-push.ensures.items (all_on (g.T.Tree.story c.args.tree.now) (g.T.Tree.story c.loop-group.tree) c.loop-group.taken c.judge.new.taken c.args.groups.now c.loop-group.group-index c.loop-group.records.items c.in_ok-judge.field-0 (judged_all (g.T.Tree.story c.args.tree.now).now.holds [] c.args.groups.now)
      (c.loop-group.invariant.0 tells) c.loop-group-test.true (c.in_ok-judge.ensures.answer tells) c.in_ok-judge.ensures.taken (c.loop-group.invariant.2 tells)),
  rw c.in_ok-push.ensures.items (applicable_more c.loop-group.records.items c.in_ok-judge.field-0 c.loop-group.taken c.loop-group.invariant.3 c.in_ok-judge.ensures.free c.in_ok-judge.ensures.few),
)

pub returns-clause-answer : goal.returns-clause-answer
returns-clause-answer g c =
    λ tells. all_end (g.T.Tree.story c.args.tree.now).now.holds c.loop-group.taken c.args.groups.now c.loop-group.group-index c.loop-group.records.items (judged_all (g.T.Tree.story c.args.tree.now).now.holds [] c.args.groups.now) c.loop-group-test.false (c.loop-group.invariant.2 tells)

pub returns-clause-applicable : goal.returns-clause-applicable
returns-clause-applicable g c = c.loop-group.invariant.3
