use Rattle.std.proofs.Common.{◌∙◌, ap}
use Rattle.std.proofs.lemmas.Result.{err_from_is_err_and}
use Rattle.merge_record.specs.RecordValue.{RecordValue}
use Rattle.merge_journal.proofs.Form.{free_if_passed}
use Rattle.merge_journal.proofs.Verdicts.{judged_at, paths_miss, read_misses, stages_miss_at}
use Rattle.merge_journal.proofs.judging.judge.Goals as goal

pub returns-in_err-value-clause-answer : goal.returns-in_err-value-clause-answer
returns-in_err-value-clause-answer g c =
    let p = err_from_is_err_and c.from_residual.result c.from_residual.ensures.1 in
    λ tells. rw (p.1, p.2) (read_misses (g.T.Tree.story c.args.tree.now).now.holds c.args.taken.now c.args.group _ (c.in_err-value.ensures.answer tells))

pub returns-in_err-take_footprint-clause-answer : goal.returns-in_err-take_footprint-clause-answer
returns-in_err-take_footprint-clause-answer g c =
    let p = err_from_is_err_and c.from_residual-in_err-take_footprint.result c.from_residual-in_err-take_footprint.ensures.1 in
    λ tells. rw (p.1, p.2) (paths_miss (g.T.Tree.story c.args.tree.now).now.holds c.args.taken.now c.args.group c.in_ok-value.value _ (c.in_ok-value.ensures.answer tells) c.in_err-take_footprint.ensures.answer)

pub returns-in_err-judge_stages-clause-answer : goal.returns-in_err-judge_stages-clause-answer
returns-in_err-judge_stages-clause-answer g c =
    let p = err_from_is_err_and c.from_residual-in_err-judge_stages.result c.from_residual-in_err-judge_stages.ensures.1 in
    λ tells. rw (p.1, p.2) (stages_miss_at (g.T.Tree.story c.args.tree.now) (g.T.Tree.story c.read_record.new.tree) c.args.taken.now c.args.group c.in_ok-value.value c.deref.result.now _
    (c.read_record.ensures.same tells) (c.deref.ensures.value ∙ ap (λ (r : RecordValue). r.placements) c.value.view_is) (c.in_ok-value.ensures.answer tells) c.in_ok-take_footprint.ensures.answer (c.in_err-judge_stages.ensures.answer tells))

pub returns-clause-answer : goal.returns-clause-answer
returns-clause-answer g c =
    λ tells. judged_at (g.T.Tree.story c.args.tree.now) (g.T.Tree.story c.read_record.new.tree) c.args.taken.now c.args.group c.in_ok-value.value c.deref.result.now
    (c.read_record.ensures.same tells) (c.deref.ensures.value ∙ ap (λ (r : RecordValue). r.placements) c.value.view_is) (c.in_ok-value.ensures.answer tells) c.in_ok-take_footprint.ensures.answer (c.in_ok-judge_stages.ensures.answer tells)

pub returns-clause-free : goal.returns-clause-free
returns-clause-free g c = free_if_passed c.args.taken.now c.args.group c.in_ok-value.value c.in_ok-take_footprint.ensures.answer
