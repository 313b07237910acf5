use Rattle.std.proofs.Common.{[], suc, drop, add-one, ap, sym, subst, refl, arith, ◌∙◌, Option}
use Rattle.std.specs.Prelude.{IsSome}
use Rattle.basics.proofs.Membership.{has-at}
use Rattle.file_tree.specs.ObjectValue.{ObjectValue}
use Rattle.merge_journal.specs.Names.{stage_path}
use Rattle.merge_journal.specs.Names.Part.{Stage}
use Rattle.merge_journal.specs.Open.{open_groups}
use Rattle.merge_core.proofs.Paths.{file_below}
use Rattle.merge_core.proofs.Redo.{judged_opens}
use Rattle.recovery.proofs.Applied.{all_read, footprint_below, one_walks, record_staged, redone_by, redone_end, redone_step}
use Rattle.recovery.proofs.Stretches.{applied_begins}
use Rattle.recovery.proofs.redoing.apply_all.Goals as goal

pub loop-content-init : goal.loop-content-init
loop-content-init g c = (
  λ t. applied_begins (g.T.Tree.story c.args.tree.now) c.args.records.now (c.requires.judged t) (c.requires.untouched t),
  λ t q below. refl,
  λ t. refl,
  omega arith,
)

pub apply-requires-clause-free : goal.apply-requires-clause-free
apply-requires-clause-free g c = (c.requires.applicable c.content-item.result (has-at c.args.records.now c.loop-content.content-index c.content-item.result c.loop-content-test.true c.content-item.is)).0

pub apply-requires-clause-short : goal.apply-requires-clause-short
apply-requires-clause-short g c = (c.requires.applicable c.content-item.result (has-at c.args.records.now c.loop-content.content-index c.content-item.result c.loop-content-test.true c.content-item.is)).1

pub apply-requires-clause-there : goal.apply-requires-clause-there
apply-requires-clause-there g c t i lt =
    let r = c.content-item.result in
    let a = (g.T.Tree.story c.args.tree.now).now.holds in
    let has = has-at c.args.records.now c.loop-content.content-index r c.loop-content-test.true c.content-item.is in
    subst (λ (x : Option ObjectValue). IsSome x) (sym (c.loop-content.invariant.1 t (stage_path r.group i) (file_below r.group (Stage i))))
    (record_staged a [] (open_groups a) c.args.records.now (judged_opens a c.args.records.now (c.requires.judged t)) r has i lt)

pub returns-in_err-apply-clause-walks : goal.returns-in_err-apply-clause-walks
returns-in_err-apply-clause-walks g c t =
    let r = c.content-item.result in
    let s = g.T.Tree.story c.args.tree.now in
    one_walks s.now.holds c.args.records.now s (g.T.Tree.story c.loop-content.tree) (g.T.Tree.story c.apply.new.tree) r (c.requires.judged t)
    (has-at c.args.records.now c.loop-content.content-index r c.loop-content-test.true c.content-item.is) (c.loop-content.invariant.0 t) (c.apply.ensures.asked t)

pub loop-content-preserved : goal.loop-content-preserved
loop-content-preserved g c =
    let r = c.content-item.result in
    let s = g.T.Tree.story c.args.tree.now in
    let has = has-at c.args.records.now c.loop-content.content-index r c.loop-content-test.true c.content-item.is in (
      λ t. one_walks s.now.holds c.args.records.now s (g.T.Tree.story c.loop-content.tree) (g.T.Tree.story c.apply.new.tree) r (c.requires.judged t) has (c.loop-content.invariant.0 t) (c.apply.ensures.asked t),
      λ t q below. footprint_below r (g.T.Tree.story c.loop-content.tree) (g.T.Tree.story c.apply.new.tree) q (c.requires.applicable r has).0 below (c.apply.ensures.asked t) ∙ c.loop-content.invariant.1 t q below,
      λ t. rw add-one (ap (redone_by (drop (suc c.loop-content.content-index) c.args.records.now)) (c.in_ok-apply.ensures.ok t) ∙ (redone_step c.args.records.now c.loop-content.content-index r (g.T.Tree.story c.loop-content.tree).now c.loop-content-test.true c.content-item.is ∙ c.loop-content.invariant.2 t)),
      omega (arith, c.loop-content.invariant.3, c.apply.ensures.faults.later),
    )

pub returns-clause-ok : goal.returns-clause-ok
returns-clause-ok g c t =
    let old = (g.T.Tree.story c.args.tree.now).now in
    let new = (g.T.Tree.story c.loop-content.tree).now in
    all_read old.holds c.args.records.now old new (c.requires.judged t) (λ q. refl) (sym (redone_end c.args.records.now c.loop-content.content-index new c.loop-content-test.false) ∙ c.loop-content.invariant.2 t)
