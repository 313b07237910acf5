use Rattle.std.proofs.Common.{◌≡◌, ◌∙◌, List, ap, subst}
use Rattle.std.specs.Prelude.{IfSome}
use Rattle.pkg_state.specs.Consistent.{AreConsistent}
use Rattle.pkg_state.specs.Fault.{told}
use Rattle.pkg_state.specs.declared.broken.Broken.{Broken}
use Rattle.pkg_state.specs.declared.broken.Broken.TheVariants as broken
use Rattle.vdb_law.specs.Packages.{Installed}
use Rattle.law_commit.specs.Lit.{packages_of}
use Rattle.run_opening.specs.Faults.{refusal_of}
use Rattle.run_opening.specs.Order.{IsFirstInOrder}
use Rattle.run_opening.proofs.Judged.{unfit}
use Rattle.run_opening.proofs.judging.judged.Goals as goal

pub returns-in-Ok-clause-consistent : goal.returns-in-Ok-clause-consistent
returns-in-Ok-clause-consistent c = subst (λ (ps : List Installed). AreConsistent (packages_of c.args.implicit.now ps)) c.deref.ensures.value c.in-Ok.ensures.ok

pub returns-in-Err-clause-unfit : goal.returns-in-Err-clause-unfit
returns-in-Err-clause-unfit c =
    let packages = c.args.packages in
    let fault = c.in-Err.fault in
    let first = subst (λ (ps : List Installed). IfSome (told fault) (IsFirstInOrder (packages_of c.args.implicit.now ps))) c.deref.ensures.value c.in-Err.ensures.fault in
    rw c.refusal_of.ensures (unfit c.args.implicit.now packages fault first)

pub returns-in-Err-clause-fine : goal.returns-in-Err-clause-fine
returns-in-Err-clause-fine c h =
    let memory : c.in-Err.fault ≡ broken.Memory = c.in-Err.ensures.fine (rw c.deref.ensures.value h) in
    c.refusal_of.ensures ∙ ap (λ (e : Broken). refusal_of e c.args.packages) memory
