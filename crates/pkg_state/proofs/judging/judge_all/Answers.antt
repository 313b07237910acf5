use Rattle.std.proofs.lemmas.Option.{MatchOption-at_none}
use Rattle.std.proofs.Common.{◌≡◌, List, not, ap, arith, subst, true}
use Rattle.std.specs.Prelude.{IfSome}
use Rattle.std.proofs.lemmas.Result.{err_from_is_err_and}
use Rattle.pkg_state.specs.Package.{Package}
use Rattle.pkg_state.specs.Consistent.{AreApart}
use Rattle.pkg_state.specs.Fault.{IsWrong, is_right, told}
use Rattle.pkg_state.proofs.Faults.{consistent_if}
use Rattle.pkg_state.proofs.Judged.{first_of_all, wrong_is_not_right}
use Rattle.pkg_state.proofs.Lists.{find_at, none_at_all, none_more}
use Rattle.pkg_state.proofs.judging.judge_all.Goals as goal

pub returns-in_err-judge-clause-fault : goal.returns-in_err-judge-clause-fault
returns-in_err-judge-clause-fault c =
    let ps = c.args.packages.now in
    let one = c.package-item.result in
    let apart : AreApart ps = MatchOption-at_none _ _ c.in_default.is c.in_ok-one.ensures in
    let p = err_from_is_err_and c.from_residual-in_err-judge.result c.from_residual-in_err-judge.ensures.1 in
    rw (p.1, p.2) (first_of_all ps one (told c.in_err-judge.field-0.0) apart
    (λ a w. find_at (λ q. not (is_right ps q)) ps c.loop-package.package-index one (omega arith) c.package-item.is c.loop-package.invariant (ap not (wrong_is_not_right ps one a w)))
    (subst (λ (qs : List Package). IfSome (told c.in_err-judge.field-0.0) (IsWrong qs one)) c.in_ok-around.ensures c.in_err-judge.ensures.wrong))

pub loop-package-preserved : goal.loop-package-preserved
loop-package-preserved c =
    let ps = c.args.packages.now in
    let one = c.package-item.result in
    none_more (λ q. not (is_right ps q)) ps c.loop-package.package-index one (omega arith) c.package-item.is c.loop-package.invariant
    (ap not (subst (λ (qs : List Package). is_right qs one ≡ true) c.in_ok-around.ensures c.in_ok-judge.ensures.ok))

pub returns-clause-ok : goal.returns-clause-ok
returns-clause-ok c =
    let ps = c.args.packages.now in
    consistent_if ps (MatchOption-at_none _ _ c.in_default.is c.in_ok-one.ensures) (none_at_all (λ q. not (is_right ps q)) ps c.loop-package.package-index (omega arith) c.loop-package.invariant)
