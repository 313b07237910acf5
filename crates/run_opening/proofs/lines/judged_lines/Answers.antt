use Rattle.std.proofs.Common.{List, subst}
use Rattle.std.specs.Prelude.{IfErr, IfOk, IfSome, Result, Vec}
use Rattle.std.specs.Global.{Global}
use Rattle.pkg_state.specs.Consistent.{AreApart, AreConsistent}
use Rattle.pkg_state.specs.Fault.{told}
use Rattle.vdb_law.specs.Packages.{Installed}
use Rattle.law_commit.specs.Lit.{packages_of}
use Rattle.run_opening.specs.Order.{IsFirstInOrder}
use Rattle.run_opening.proofs.Crowded.{let_in_apart, let_in_crowded, let_in_fine, let_in_same}
use Rattle.run_opening.proofs.lines.judged_lines.Goals as goal

pub returns-in-Ok-clause-apart : goal.returns-in-Ok-clause-apart
returns-in-Ok-clause-apart c = (subst (λ (ps : List Installed). AreConsistent (packages_of c.args.implicit.now ps)) c.deref.ensures.value c.in-Ok.ensures.ok).apart

pub returns-in-Err-clause-same : goal.returns-in-Err-clause-same
returns-in-Err-clause-same c = rw c.let_in.ensures (let_in_same c.args.implicit.now c.args.packages c.in-Err.fault)

pub returns-in-Err-clause-apart : goal.returns-in-Err-clause-apart
returns-in-Err-clause-apart c =
    let fault = c.in-Err.fault in
    let first = subst (λ (ps : List Installed). IfSome (told fault) (IsFirstInOrder (packages_of c.args.implicit.now ps))) c.deref.ensures.value c.in-Err.ensures.fault in
    rw c.let_in.ensures (let_in_apart c.args.implicit.now c.args.packages fault first)

pub returns-in-Err-clause-crowded : goal.returns-in-Err-clause-crowded
returns-in-Err-clause-crowded c =
    let fault = c.in-Err.fault in
    let first = subst (λ (ps : List Installed). IfSome (told fault) (IsFirstInOrder (packages_of c.args.implicit.now ps))) c.deref.ensures.value c.in-Err.ensures.fault in
    rw c.let_in.ensures (let_in_crowded c.args.implicit.now c.args.packages fault first)

pub returns-in-Err-clause-fine : goal.returns-in-Err-clause-fine
returns-in-Err-clause-fine c h =
    let fault = c.in-Err.fault in
    let first = subst (λ (ps : List Installed). IfSome (told fault) (IsFirstInOrder (packages_of c.args.implicit.now ps))) c.deref.ensures.value c.in-Err.ensures.fault in
    rw c.let_in.ensures (let_in_fine c.args.implicit.now c.args.packages fault first h)
