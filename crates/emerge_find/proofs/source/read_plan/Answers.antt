use Rattle.std.proofs.Common.{◌≡◌, Option, Err, Some, ap, refl, subst, sym}
use Rattle.std.proofs.lemmas.Result.{err_from_is_err_and}
use Rattle.vdb_law.specs.Fields.{text_of}
use Rattle.file_tree.specs.Disk.{Map}
use Rattle.file_tree.specs.ObjectValue.{ObjectValue}
use Rattle.plan_text.specs.Plans.{plan_value}
use Rattle.plan_text.specs.Texts.{plan_text}
use Rattle.emerge_find.specs.Files.{IsRefusal}
use Rattle.emerge_find.specs.Sources.{MissesFile}
use Rattle.emerge_find.specs.declared.ends.NoPlan.{NoPlan}
use Rattle.emerge_find.proofs.Missed.{misses_of, unread_fails_not}
use Rattle.emerge_find.proofs.source.read_plan.Goals as goal

pub returns-in_err-object-clause-refused : goal.returns-in_err-object-clause-refused
returns-in_err-object-clause-refused g c t =
    let p = err_from_is_err_and c.from_residual.result c.from_residual.ensures.1 in
    rw (p.1, p.2) tt

pub returns-in_err-object-clause-faults : goal.returns-in_err-object-clause-faults
returns-in_err-object-clause-faults g c =
    let p = err_from_is_err_and c.from_residual.result c.from_residual.ensures.1 in
    let counts = c.in_err-object.ensures.faults in
    rw (p.1, p.2) (record { later = counts.later; rose = λ fails. counts.rose (ap Err fails) })

pub returns-in-Err-clause-faults : goal.returns-in-Err-clause-faults
returns-in-Err-clause-faults g c =
    rw c.unread.ensures (record { later = c.in_ok-object.ensures.faults.later; rose = λ fails. absurd (unread_fails_not c.args.path c.in-Err.fault fails) })

pub returns-in-Err-clause-refused : goal.returns-in-Err-clause-refused
returns-in-Err-clause-refused g c t =
    let m : Map = (g.T.Tree.story c.args.tree.now).now.holds in
    let fault = c.in-Err.fault in
    subst (λ (e : NoPlan). MissesFile m c.args.path e) (sym c.unread.ensures)
    (misses_of m c.args.path fault (subst (λ (o : Option ObjectValue). IsRefusal (text_of o) fault) (c.in_ok-object.ensures.answer t) c.in-Err.ensures.fault))

pub returns-in-Ok-clause-found : goal.returns-in-Ok-clause-found
returns-in-Ok-clause-found g c t = (
  refl,
  record {
    form = c.in-Ok.ensures.form;
    text = subst (λ (o : Option ObjectValue). text_of o ≡ Some (plan_text (plan_value c.in-Ok.text))) (c.in_ok-object.ensures.answer t) c.in-Ok.ensures.text;
  },
)
