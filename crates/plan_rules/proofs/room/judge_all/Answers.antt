use Rattle.std.proofs.Common.{◌≡◌, ℕ, Option, arith, length}
use Rattle.basics.specs.Limits.{most_groups}
use Rattle.plan_law.specs.Lives as law
use Rattle.plan_lives.specs.Index.{all_lives, plan_of, start_of}
use Rattle.plan_lives.specs.Lives.{life_of, lives_of, moment_of}
use Rattle.plan_lives.proofs.Steps.{within_more}
use Rattle.plan_lives.proofs.Within.{lives_within}
use Rattle.plan_rules.specs.Order.{number_of}
use Rattle.plan_rules.specs.Refusals.{Refusal, Refusal as refused}
use Rattle.plan_rules.specs.Rules.{Hinders, room_of}
use Rattle.plan_rules.specs.Verdicts.{refuse}
use Rattle.plan_rules.proofs.Hindered.{within_all}
use Rattle.plan_rules.proofs.Judged.{at_item}
use Rattle.plan_rules.proofs.Trying.{placed_next}
use Rattle.plan_rules.proofs.room.judge_all.Goals as goal

pub is_in_way-requires-clause-y : goal.is_in_way-requires-clause-y
is_in_way-requires-clause-y c = within_all (all_lives c.args.index.now) (lives_of c.args.all.now) c.requires.order c.loop-j.j (life_of c.index-all-j.result) (at_item c.args.all.now c.loop-j.j c.index-all-j.result (omega arith) c.index-all-j.is)

pub number_of-requires : goal.number_of-requires
number_of-requires c =
    let index = c.args.index.now in
    within_more (length (plan_of index)) most_groups c.requires.is.reach_is.form.few (moment_of c.args.x.now.birth) (lives_within (plan_of index) (start_of index) (life_of c.args.x.now) c.requires.x).0

pub loop-j-preserved : goal.loop-j-preserved
loop-j-preserved c =
    let plan = plan_of c.args.index.now in
    let items = c.args.all.now in
    let x = life_of c.args.x.now in
    let J : ℕ → law.Life → Option Refusal → Type 0 = λ k z. refuse ((¬ (k ≡ c.args.i)) × Hinders plan x z) (refused.Occupied (number_of x.birth) x.package_is.facts.id z.package_is.facts.id) in
    placed_next life_of items c.loop-j.j c.index-all-j.result J (room_of plan (lives_of items) c.args.i x) (omega arith) c.index-all-j.is c.loop-j.invariant
    (λ k. let t = c.in_ok-is_in_way.ensures.1 k in let f = c.if-branch.false in cc (t, f))
