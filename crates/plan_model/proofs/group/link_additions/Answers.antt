use Rattle.std.proofs.Common.{◌+◌, ◌<◌, List, arith, length, subst, sym, take}
use Rattle.std.specs.List.{AllZip}
use Rattle.std.proofs.lemmas.Result.{err_from_is_err_and}
use Rattle.pkg_state.specs.Package.{Package}
use Rattle.plan_rules.specs.Verdicts.{each}
use Rattle.plan_rules.proofs.Trying.{each_next, each_refused}
use Rattle.plan_model.specs.Faults.{addition_rule}
use Rattle.plan_model.specs.Offers.{Brings}
use Rattle.plan_model.proofs.Pairs.{zip_next}
use Rattle.plan_model.proofs.group.link_additions.Goals as goal

pub returns-in_err-link_addition-clause-says : goal.returns-in_err-link_addition-clause-says
returns-in_err-link_addition-clause-says c =
    let xs = c.args.additions.now in
    let i = c.loop-addition.addition-index in
    let J = addition_rule c.args.offers.now.offered.now c.args.g in
    let p = err_from_is_err_and c.from_residual.result c.from_residual.ensures.1 in
    rw (p.1, p.2) (λ other. each_refused xs i c.addition-item.result J (each xs J) c.in_err-link_addition.field-0.0 (omega arith) c.addition-item.is c.loop-addition.invariant.1 (c.in_err-link_addition.ensures.says other))

pub loop-addition-preserved : goal.loop-addition-preserved
loop-addition-preserved c =
    let xs = c.args.additions.now in
    let i = c.loop-addition.addition-index in
    let J = addition_rule c.args.offers.now.offered.now c.args.g in
    let within : i < length xs = omega arith in
    let is = c.addition-item.is in (
      subst (λ (ys : List Package). AllZip (Brings c.args.offers.now.offered.now) (take (i + 1) xs) ys) (sym {A = List Package} c.in_ok-push.ensures.items)
          (zip_next (Brings c.args.offers.now.offered.now) xs c.loop-addition.linked.items i c.addition-item.result c.in_ok-link_addition.field-0 within is c.loop-addition.invariant.0 c.in_ok-link_addition.ensures.brings),
      each_next xs i c.addition-item.result J (each xs J) within is c.loop-addition.invariant.1 c.in_ok-link_addition.ensures.says,
    )
