use Rattle.std.proofs.Common.{◌∙◌, ◌++◌, Err, ap, refl, subst, take}
use Rattle.std.proofs.lemmas.Result.{err_from_is_err_and}
use Rattle.file_tree.specs.Disk.{Rose}
use Rattle.merge_journal.specs.Group.{Group}
use Rattle.merge_core.specs.Phase.{was_opened}
use Rattle.merge_site.specs.Booking.{is_over}
use Rattle.merge_group.specs.Lines.{line_in}
use Rattle.merge_group.specs.Granted.{wishes_of}
use Rattle.merge_group.specs.Working.{is_staged}
use Rattle.merge_group.proofs.Settling.{owners_settled}
use Rattle.merge_group.proofs.Told.{wrote_none, wrote_part, wrote_whole}
use Rattle.merge_group.proofs.Worked.{works_then}
use Rattle.merge_group.proofs.running.merge_and_tell.Goals as goal

pub returns-in_err-tell-clause-works : goal.returns-in_err-tell-clause-works
returns-in_err-tell-clause-works g c = works_then c.args.group c.args.site.now c.merge.new.site c.tell.new.site c.merge.ensures.works c.tell.ensures.works

pub returns-clause-works : goal.returns-clause-works
returns-clause-works g c = works_then c.args.group c.args.site.now c.merge.new.site c.tell.new.site c.merge.ensures.works c.tell.ensures.works

pub returns-in_err-merge-clause-written : goal.returns-in_err-merge-clause-written
returns-in_err-merge-clause-written g c t start wrote =
    let told = c.args.acknowledged.now.items in
    wrote_none (Rose (g.S.Sink.faults c.args.site.now.sink) (g.S.Sink.faults c.merge.new.site.sink)) (line_in c.args.site.now.groups) c.args.group c.args.history.now.items told start (g.S.Sink.written c.args.site.now.sink) (g.S.Sink.written c.merge.new.site.sink) c.requires.all_told wrote c.merge.new.history.items told c.merge.ensures.one refl
    (ap g.S.Sink.written c.merge.ensures.sink)

pub returns-in_err-tell-clause-written : goal.returns-in_err-tell-clause-written
returns-in_err-tell-clause-written g c t start wrote =
    let p = c.tell.ensures.part t in
    let told = c.args.acknowledged.now.items in
    let fails = subst (λ x. Rose (g.S.Sink.faults x) (g.S.Sink.faults c.tell.new.site.sink)) c.merge.ensures.sink (c.tell.ensures.faults.rose (c.in_err-tell.was ∙ ap Err c.in_err-tell.ensures.only)) in
    wrote_part (Rose (g.S.Sink.faults c.args.site.now.sink) (g.S.Sink.faults c.tell.new.site.sink)) (line_in c.args.site.now.groups) c.args.group c.args.history.now.items told start (g.S.Sink.written c.args.site.now.sink) (g.S.Sink.written c.tell.new.site.sink) c.requires.all_told wrote fails c.merge.new.history.items told p.0 c.in_ok-merge.ensures.merged refl
    (p.1
    ∙ (ap (λ x. g.S.Sink.written x ++ take p.0 (line_in c.merge.new.site.groups c.args.group)) c.merge.ensures.sink ∙ ap (λ l. g.S.Sink.written c.args.site.now.sink ++ take p.0 (line_in l c.args.group)) c.merge.ensures.works.groups))

pub returns-clause-written : goal.returns-clause-written
returns-clause-written g c t start wrote =
    wrote_whole (Rose (g.S.Sink.faults c.args.site.now.sink) (g.S.Sink.faults c.tell.new.site.sink)) (line_in c.args.site.now.groups) c.args.group c.args.history.now.items c.args.acknowledged.now.items start (g.S.Sink.written c.args.site.now.sink) (g.S.Sink.written c.tell.new.site.sink) c.requires.all_told wrote c.merge.new.history.items c.add.new.list.items
    c.in_ok-merge.ensures.merged c.add.ensures.items
    (c.in_ok-tell.ensures.written t
    ∙ (ap (λ x. g.S.Sink.written x ++ line_in c.merge.new.site.groups c.args.group) c.merge.ensures.sink ∙ ap (λ l. g.S.Sink.written c.args.site.now.sink ++ line_in l c.args.group) c.merge.ensures.works.groups))

pub returns-clause-group : goal.returns-clause-group
returns-clause-group g c = c.tell.ensures.group ∙ c.in_ok-merge.ensures.group

pub returns-clause-settled : goal.returns-clause-settled
returns-clause-settled g c =
    let works = works_then c.args.group c.args.site.now c.merge.new.site c.tell.new.site c.merge.ensures.works c.tell.ensures.works in
    let wished = (c.tell.ensures.works.wishes.mine (ap is_staged c.in_ok-merge.ensures.at.phase)).1 ∙ c.in_ok-merge.ensures.wishes in
    let group = c.tell.ensures.group ∙ c.in_ok-merge.ensures.group in
    owners_settled c.args.group c.args.site.now c.tell.new.site (wishes_of c.args.packages.items) c.args.removals.items works c.promise.ensures.booked c.promise-2.ensures.booked (ap is_over c.requires.taken.phase) (ap is_over c.in_ok-tell.ensures.at.phase) wished
    (ap (λ (x : Group). x.content.removals) group)

pub returns-in_err-tell-clause-cause : goal.returns-in_err-tell-clause-cause
returns-in_err-tell-clause-cause g c =
    let p = err_from_is_err_and c.from_residual-in_err-tell.result c.from_residual-in_err-tell.ensures.1 in
    rw (p.1, p.2, c.in_err-tell.ensures.only) tt

pub returns-in_err-tell-clause-let_in : goal.returns-in_err-tell-clause-let_in
returns-in_err-tell-clause-let_in g c t opened =
    let one = c.merge.ensures.let_in t (ap was_opened c.in_ok-merge.ensures.at.phase) in
    (c.tell.ensures.group ∙ one.0, one.1)

pub returns-clause-let_in : goal.returns-clause-let_in
returns-clause-let_in g c t opened =
    let one = c.merge.ensures.let_in t (ap was_opened c.in_ok-merge.ensures.at.phase) in
    (c.tell.ensures.group ∙ one.0, one.1)
