use Rattle.std.proofs.Common.{◌+◌, List, arith, subst, sym, take}
use Rattle.std.specs.List.{AllByRecursion, AllZip}
use Rattle.basics.proofs.Each.{all-push}
use Rattle.build_pool.specs.declared.orders.Order.{Order}
use Rattle.plan_lives.specs.Index.{plan_of, start_of}
use Rattle.plan_model.proofs.Pairs.{zip_next}
use Rattle.plan_text.specs.Texts.{IsAddition}
use Rattle.merge_groups.specs.Written.{Says}
use Rattle.merge_groups.proofs.writing.additions_in.Goals as goal

pub loop-pkg-preserved : goal.loop-pkg-preserved
loop-pkg-preserved c =
    let index = c.args.index.now in
    let R = Says (plan_of index) (start_of index) c.args.g in
    let xs = c.args.pkgs.now in
    let i = c.loop-pkg.pkg-index in
    let y = c.in_ok-addition_in.field-0 in (
      subst (λ (ys : List Order). AllZip R (take (i + 1) xs) ys) (sym {A = List Order} c.in_ok-push.ensures.items)
          (zip_next R xs c.loop-pkg.all.items i c.pkg-item.result y (omega arith) c.pkg-item.is c.loop-pkg.invariant.0 c.in_ok-addition_in.ensures.says),
      subst (λ (ys : List Order). AllByRecursion IsAddition ys) (sym {A = List Order} c.in_ok-push.ensures.items)
          (all-push IsAddition c.loop-pkg.all.items y c.loop-pkg.invariant.1 c.in_ok-addition_in.ensures.form),
    )
