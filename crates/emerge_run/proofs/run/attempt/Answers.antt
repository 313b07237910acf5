use Rattle.std.proofs.Common.{◌∙◌, ℕ, List, Ok, ap, map, subst}
use Rattle.std.specs.Prelude.{string_bytes}
use Rattle.file_tree.specs.Disk.{Rose}
use Rattle.file_tree.specs.Output.{Wrote}
use Rattle.emerge_run.specs.Output.{IsCut}
use Rattle.emerge_run.proofs.Promises.{chooses_as, runs_empty, runs_merging, runs_showing, runs_unfound}
use Rattle.emerge_run.proofs.run.attempt.Goals as goal

pub merge_ready-requires-clause-rest : goal.merge_ready-requires-clause-rest
merge_ready-requires-clause-rest g c t =
    let arm = c.in-Ok-Merge in
    let chooses = chooses_as g.T.Tree (map string_bytes c.args.words.now) c.args.tree c.choose-opening.new.tree c.choose-opening.result _ (arm.is ∙ ap Ok arm.field-0-is) c.choose-opening.ensures in
    (chooses.tree t).rest

pub merge_ready-requires-clause-task : goal.merge_ready-requires-clause-task
merge_ready-requires-clause-task g c =
    let arm = c.in-Ok-Merge in
    let chooses = chooses_as g.T.Tree (map string_bytes c.args.words.now) c.args.tree c.choose-opening.new.tree c.choose-opening.result _ (arm.is ∙ ap Ok arm.field-0-is) c.choose-opening.ensures in
    chooses.answer.task

pub returns-in-Ok-Merge : goal.returns-in-Ok-Merge
returns-in-Ok-Merge g c =
    let words = map string_bytes c.args.words.now in
    let mid = c.choose-opening.new.tree in
    let seen = c.choose-opening.result in
    let arm = c.in-Ok-Merge in
    runs_merging g.T.Tree g.S.Sink g.B.Builder words c.args.tree c.args.out c.args.pool mid seen.opening arm.plan arm.task c.merge_ready.result
    (chooses_as g.T.Tree words c.args.tree mid seen _ (arm.is ∙ ap Ok arm.field-0-is) c.choose-opening.ensures) c.merge_ready.ensures

pub returns-in-Ok-Show : goal.returns-in-Ok-Show
returns-in-Ok-Show g c =
    let S = g.S.Sink in
    let words = map string_bytes c.args.words.now in
    let mid = c.choose-opening.new.tree in
    let seen = c.choose-opening.result in
    let arm = c.in-Ok-Show in
    let show = c.show_plan-status in
    let u = c.unmerged.ensures in
    runs_showing g.T.Tree S g.B.Builder words c.args.tree c.args.out c.args.pool mid show.new.out seen.opening arm.text arm.plan show.result c.unmerged.result u.history u.acknowledged u.ended
    (chooses_as g.T.Tree words c.args.tree mid seen _ (arm.is ∙ ap Ok arm.field-0-is) c.choose-opening.ensures) show.ensures.status (record { later = show.ensures.out_count; rose = show.ensures.output })
    (λ t. subst (λ (b : List ℕ). Wrote (IsCut (Rose (S.faults c.args.out) (S.faults show.new.out)) b show.result) (S.written c.args.out) (S.written show.new.out)) c.as_str.ensures.value (show.ensures.written t))

pub returns-in-Ok-Rest : goal.returns-in-Ok-Rest
returns-in-Ok-Rest g c =
    let words = map string_bytes c.args.words.now in
    let mid = c.choose-opening.new.tree in
    let seen = c.choose-opening.result in
    let arm = c.in-Ok-Rest in
    let u = c.unmerged-in-Ok-Rest.ensures in
    runs_empty g.T.Tree g.S.Sink g.B.Builder words c.args.tree c.args.out c.args.pool mid seen.opening arm.plan c.unmerged-in-Ok-Rest.result u.history u.acknowledged u.ended
    (chooses_as g.T.Tree words c.args.tree mid seen _ (arm.is ∙ ap Ok arm.field-0-is) c.choose-opening.ensures)

pub returns-in-Err : goal.returns-in-Err
returns-in-Err g c =
    let words = map string_bytes c.args.words.now in
    let mid = c.choose-opening.new.tree in
    let seen = c.choose-opening.result in
    let arm = c.in-Err in
    let u = c.unmerged-in-Err.ensures in
    runs_unfound g.T.Tree g.S.Sink g.B.Builder words c.args.tree c.args.out c.args.pool mid seen.opening arm.status c.unmerged-in-Err.result u.history u.acknowledged u.ended
    (chooses_as g.T.Tree words c.args.tree mid seen _ arm.is c.choose-opening.ensures)
