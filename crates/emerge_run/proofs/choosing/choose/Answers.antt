use Rattle.std.proofs.Common.{◌∙◌, Err, IsTrue, ap, map}
use Rattle.std.specs.Prelude.{string_bytes}
use Rattle.emerge_run.specs.Outcomes.{HasRecovered}
use Rattle.emerge_run.proofs.Endings.{at_rest}
use Rattle.emerge_run.proofs.Promises.{chooses_found, chooses_nothing, chooses_unrecovered, counts_for}
use Rattle.emerge_run.proofs.choosing.choose.Goals as goal

pub returns-in-Ok-recover : goal.returns-in-Ok-recover
returns-in-Ok-recover g c =
    let T = g.T.Tree in
    let start = c.args.tree.now in
    let mid = c.recover.new.tree in
    let found = c.find_work.result in
    let has : IsTrue T.tells → HasRecovered (T.story start) (T.story mid) = λ t. (let r = c.in-Ok-recover.ensures.recovered t in record { moments = c.recover.ensures.moments t; recovered = r.0.0; rest = at_rest (T.story start).now.holds (T.story mid) (r.0.0, r.1) }) in
    chooses_found T (map string_bytes c.args.words.now) start mid c.find_work.new.tree found.opening c.in-Ok.asked c.in-Ok.ensures.found has c.recover.ensures.faults.later found.answer c.find_work.ensures

pub returns-in-Err-recover : goal.returns-in-Err-recover
returns-in-Err-recover g c =
    let T = g.T.Tree in
    let start = c.args.tree.now in
    let mid = c.recover.new.tree in
    let arm = c.in-Err-recover in
    let e = c.recover.ensures in
    chooses_unrecovered T (map string_bytes c.args.words.now) start mid c.ended.result c.ended.ensures.opening arm.fault (c.ended.ensures.answer ∙ ap Err c.from.ensures) (c.in-Ok.asked, c.in-Ok.ensures.found) arm.ensures.refused arm.ensures.unchanged e.moments
    (counts_for _ _ (T.faults start) (T.faults mid) (λ failed. arm.is ∙ ap Err failed) e.faults)

pub returns-in-Err : goal.returns-in-Err
returns-in-Err g c =
    let e = c.ended-in-Err.ensures in
    chooses_nothing g.T.Tree (map string_bytes c.args.words.now) c.args.tree.now c.ended-in-Err.result e.opening c.in-Err.status e.answer c.in-Err.ensures.refused
