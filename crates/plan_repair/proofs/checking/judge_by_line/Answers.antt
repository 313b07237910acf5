use Rattle.std.proofs.Common.{List, subst, sym}
use Rattle.std.proofs.lemmas.List.Sorted.{IsPermutation-sym}
use Rattle.pkg_state.specs.Package.{Package}
use Rattle.plan_rules.specs.Order.{AreInOrder, package_key}
use Rattle.plan_rules.proofs.Consistent.{consistent_moved}
use Rattle.plan_repair.proofs.Repairs.{told_fault}
use Rattle.plan_repair.proofs.checking.judge_by_line.Goals as goal

pub returns-in-Ok : goal.returns-in-Ok
returns-in-Ok c =
    let ps = c.args.packages.now in
    let qs = c.deref.result.now in
    let order = subst (λ (xs : List Package). AreInOrder package_key ps xs) (sym c.deref.ensures.value) c.in_ok-ordered.ensures in
    consistent_moved qs ps (IsPermutation-sym ps qs order.moved) c.in-Ok.ensures.ok

pub returns : goal.returns
returns c =
    let ps = c.args.packages.now in
    let qs = c.deref.result.now in
    let order = subst (λ (xs : List Package). AreInOrder package_key ps xs) (sym c.deref.ensures.value) c.in_ok-ordered.ensures in
    told_fault ps qs c.in-Err.broken c.refused.result order c.refused.ensures c.in-Err.ensures.fault
