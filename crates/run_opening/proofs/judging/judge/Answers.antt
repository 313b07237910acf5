use Rattle.std.proofs.Common.{List, subst, sym}
use Rattle.std.specs.Prelude.{IfSome}
use Rattle.std.proofs.lemmas.List.Sorted.{IsPermutation-sym}
use Rattle.std.proofs.lemmas.Result.{IfErr-weaker, on_ok_weaker}
use Rattle.pkg_state.specs.Fault.{IsFirstFault, told}
use Rattle.pkg_state.specs.Package.{Package}
use Rattle.law_commit.specs.Lit.{packages_of}
use Rattle.run_opening.specs.Order.{AreInLineOrder, IsFirstInOrder}
use Rattle.run_opening.proofs.Judged.{first_in_order}
use Rattle.run_opening.proofs.Moved.{consistent_moved}
use Rattle.run_opening.proofs.judging.judge.Goals as goal

pub returns-clause-ok : goal.returns-clause-ok
returns-clause-ok c =
    let ps : List Package = packages_of c.args.implicit.now c.args.packages.now in
    let qs : List Package = c.deref.result.now in
    let order : AreInLineOrder ps qs = subst (AreInLineOrder ps) (sym c.deref.ensures.value) c.in_ok-ordered.ensures in
    on_ok_weaker c.consistent.result (consistent_moved qs ps (IsPermutation-sym ps qs order.moved)) c.consistent.ensures.ok

pub returns-clause-fault : goal.returns-clause-fault
returns-clause-fault c =
    let ps : List Package = packages_of c.args.implicit.now c.args.packages.now in
    let qs : List Package = c.deref.result.now in
    let order : AreInLineOrder ps qs = subst (AreInLineOrder ps) (sym c.deref.ensures.value) c.in_ok-ordered.ensures in
    IfErr-weaker c.consistent.result (λ e. IfSome (told e) (IsFirstFault qs)) (λ e. IfSome (told e) (IsFirstInOrder ps))
    (λ e first. first_in_order ps qs (told e) order first) c.consistent.ensures.fault

pub returns-clause-fine : goal.returns-clause-fine
returns-clause-fine c h =
    let ps : List Package = packages_of c.args.implicit.now c.args.packages.now in
    let qs : List Package = c.deref.result.now in
    let order : AreInLineOrder ps qs = subst (AreInLineOrder ps) (sym c.deref.ensures.value) c.in_ok-ordered.ensures in
    c.consistent.ensures.fine (consistent_moved ps qs order.moved h)
