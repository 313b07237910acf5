use Rattle.std.proofs.Common.{List, arith, map, subst, sym}
use Rattle.std.proofs.lemmas.Result.{err_from_is_err_and}
use Rattle.std.proofs.lemmas.List.Sorted.{IsPermutation-sym}
use Rattle.basics.specs.Members.{Has}
use Rattle.basics.proofs.Membership.{has-at, has-map}
use Rattle.basics.proofs.Permutations.{has-moved}
use Rattle.plan_law.specs.Lives as law
use Rattle.plan_lives.specs.Index.{all_lives, plan_of, start_of}
use Rattle.plan_lives.specs.Lives.{life_of, lives_of}
use Rattle.plan_check.specs.Asks.{AskedValue}
use Rattle.plan_check.specs.PackageRules.{package_rule}
use Rattle.plan_check.specs.Turns.{tried_value}
use Rattle.plan_rules.specs.Verdicts.{each}
use Rattle.plan_rules.proofs.Trying.{mapped_refused, told_more}
use Rattle.plan_check.proofs.checking.judge_packages.Goals as goal

pub judge_package-requires-clause-x : goal.judge_package-requires-clause-x
judge_package-requires-clause-x c =
    let all = lives_of c.args.all.now in
    let xs = all_lives c.args.index.now in
    let tried = c.args.tried.now in
    let one = c.one-item.result in
    let x = life_of one.life in
    has-moved all xs x (IsPermutation-sym xs all c.requires.order.moved)
    (subst (λ (ys : List law.Life). Has ys x) (sym c.requires.lives)
    (has-map (λ (it : law.Life × AskedValue). it.0) (map tried_value tried) (tried_value one)
    (has-map tried_value tried one (has-at tried c.loop-one.one-index one (omega arith) c.one-item.is))))

pub returns-in_err-judge_package : goal.returns-in_err-judge_package
returns-in_err-judge_package c =
    let tried = c.args.tried.now in
    let one = c.one-item.result in
    let J = package_rule (plan_of c.args.index.now) (start_of c.args.index.now) (lives_of c.args.all.now) in
    let p = err_from_is_err_and c.from_residual.result c.from_residual.ensures.1 in
    rw (p.1, p.2) (told_more (J (tried_value one)) (each (map tried_value tried) J) c.in_err-judge_package.field-0.0
    (λ a j. mapped_refused tried_value tried c.loop-one.one-index one J (each (map tried_value tried) J) a (omega arith) c.one-item.is c.loop-one.invariant j)
    c.in_err-judge_package.ensures)
