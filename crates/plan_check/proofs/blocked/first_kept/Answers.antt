use Rattle.std.specs.Option.{option_map}
use Rattle.std.proofs.lemmas.List.Sorted.{IsPermutation-sym}
use Rattle.basics.proofs.Permutations.{has-moved}
use Rattle.plan_lives.specs.Index.{all_lives, plan_of}
use Rattle.plan_lives.specs.Lives.{lives_of}
use Rattle.plan_check.proofs.Clearing.{none_kept}
use Rattle.plan_check.proofs.blocked.first_kept.Goals as goal

pub returns-then-branch : goal.returns-then-branch
returns-then-branch c =
    let plan = plan_of c.args.index.now in
    let xs = all_lives c.args.index.now in
    let all = lives_of c.args.all.now in
    none_kept plan xs all c.args.keeping.now (option_map (λ k. k.now) c.args.other)
    (λ y h. has-moved all xs y (IsPermutation-sym xs all c.requires.order.moved) h) (c.in_ok-are_clear.ensures c.if-branch.true)
