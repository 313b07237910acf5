use Rattle.std.proofs.Common.{◌⊎◌, Option, None, refl, arith}
use Rattle.std.specs.Option.{option_map}
use Rattle.std.proofs.lemmas.List.Sorted.{IsPermutation-sym}
use Rattle.basics.proofs.Permutations.{has-moved}
use Rattle.pkg_state.specs.Package.{Package}
use Rattle.plan_law.specs.Lives as law
use Rattle.plan_lives.specs.Index.{all_lives, plan_of}
use Rattle.plan_lives.specs.Lives.{life_of, lives_of}
use Rattle.plan_lives.proofs.Keyed.{item_at}
use Rattle.plan_check.specs.Kept.{IsKeptOut, IsKeptOutToo}
use Rattle.plan_rules.specs.Verdicts.{each, refuse}
use Rattle.plan_rules.proofs.Judged.{at_end}
use Rattle.plan_rules.proofs.Trying.{mapped_next, mapped_refused}
use Rattle.plan_check.proofs.blocked.first_of_all.Goals as goal

pub keeps_out_too-requires-clause-y : goal.keeps_out_too-requires-clause-y
keeps_out_too-requires-clause-y c =
    let items = c.args.all.now in
    has-moved (lives_of items) (all_lives c.args.index.now) (life_of c.y-item.result) (IsPermutation-sym (all_lives c.args.index.now) (lives_of items) c.requires.order.moved)
    (item_at items c.loop-y.y-index c.y-item.result (omega arith) c.y-item.is)

pub returns-then-branch : goal.returns-then-branch
returns-then-branch c =
    let items = c.args.all.now in
    let J : law.Life → Option Package → Type 0 = λ y. refuse (IsKeptOut (plan_of c.args.index.now) c.args.keeping.now y ⊎ IsKeptOutToo (plan_of c.args.index.now) (option_map (λ k. k.now) c.args.other) y) y.package_is in
    mapped_refused life_of items c.loop-y.y-index c.y-item.result J (each (lives_of items) J) c.y-item.result.pkg.now (omega arith) c.y-item.is c.loop-y.invariant (c.in_ok-keeps_out_too.ensures.0 c.if-branch.true, refl)

pub loop-y-preserved : goal.loop-y-preserved
loop-y-preserved c =
    let items = c.args.all.now in
    let J : law.Life → Option Package → Type 0 = λ y. refuse (IsKeptOut (plan_of c.args.index.now) c.args.keeping.now y ⊎ IsKeptOutToo (plan_of c.args.index.now) (option_map (λ k. k.now) c.args.other) y) y.package_is in
    mapped_next life_of items c.loop-y.y-index c.y-item.result J (each (lives_of items) J) (omega arith) c.y-item.is c.loop-y.invariant
    (λ k. let t = c.in_ok-keeps_out_too.ensures.1 k in let f = c.if-branch.false in cc (t, f))

pub returns : goal.returns
returns c =
    let items = c.args.all.now in
    let J : law.Life → Option Package → Type 0 = λ y. refuse (IsKeptOut (plan_of c.args.index.now) c.args.keeping.now y ⊎ IsKeptOutToo (plan_of c.args.index.now) (option_map (λ k. k.now) c.args.other) y) y.package_is in
    c.loop-y.invariant None (at_end items c.loop-y.y-index J (omega arith))
