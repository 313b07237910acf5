use Rattle.std.proofs.Common.{◌≡◌, ◌∙◌, ◌<◌, ℕ, ap, arith, length, map, subst, take}
use Rattle.std.proofs.lemmas.List.{length-map}
use Rattle.run_turns.specs.Plans.{bytes_of_job}
use Rattle.plan_text.specs.Plans.{group_value}
use Rattle.emerge_run.specs.Builds.{ordered_of_job, orders_in}
use Rattle.emerge_run.proofs.Jobs.{all_orders, line_more, orders_more, text_at, texts_long}
use Rattle.emerge_run.proofs.prepare.jobs_of.Goals as goal

pub bounds-texts-place : goal.bounds-texts-place
bounds-texts-place c = omega (arith, c.loop-place-test.true, texts_long c.args.texts.now c.args.plan.now c.requires.alike)

pub loop-place-preserved : goal.loop-place-preserved
loop-place-preserved c =
    let i = c.loop-place.place in
    let texts = c.args.texts.now in
    let text = c.index-texts-place.result in
    let within : i < length texts = omega (arith, c.loop-place-test.true, texts_long texts c.args.plan.now c.requires.alike) in
    let far : i < length (map group_value texts) = omega (arith, within, length-map texts group_value) in (
      ap (map bytes_of_job) c.in_ok-push.ensures.items ∙ line_more c.loop-place.jobs.items c.in_ok-job.job c.args.plan.now i c.index-plan-place.result c.loop-place-test.true c.index-plan-place.is c.loop-place.invariant.0 c.in_ok-job.ensures.line,
      ap (map ordered_of_job) c.in_ok-push.ensures.items
          ∙ orders_more c.loop-place.jobs.items c.in_ok-job.job (map group_value texts) i (group_value text) far (text_at texts i text within c.index-texts-place.is) c.loop-place.invariant.1 c.in_ok-job.ensures.orders,
    )

pub returns-clause-orders : goal.returns-clause-orders
returns-clause-orders c =
    let last : c.loop-place.place ≡ length c.args.plan.now = omega (arith, c.loop-place-test.false, c.loop-place.auto.place-end) in
    let so_far = subst (λ (n : ℕ). map ordered_of_job c.loop-place.jobs.items ≡ map orders_in (take n (map group_value c.args.texts.now))) last c.loop-place.invariant.1 in
    all_orders c.loop-place.jobs.items c.args.texts.now c.args.plan.now c.requires.alike so_far
