use Rattle.std.proofs.Common.{◌≡◌, ◌∙◌, List, [], ap, map, refl, sym}
use Rattle.plan_text.specs.Plans.{group_value}
use Rattle.plan_text.specs.declared.plan.Group.{Group as TextGroup}
use Rattle.emerge_run.specs.Builds.{lines_from, orders_in}
use Rattle.emerge_run.proofs.Jobs.{jobs_are, no_groups, no_jobs}
use Rattle.emerge_run.proofs.choosing.work_of.Goals as goal

pub returns-then-is_empty : goal.returns-then-is_empty
returns-then-is_empty c =
    let none : c.args.chosen.plan ≡ [] = sym c.groups.ensures.groups ∙ no_groups c.groups.result.now (sym c.is_empty.ensures ∙ c.if-is_empty.true) in
    record { work = (c.if-pretend.false, refl, none, no_jobs c.args.chosen c.requires.shape none) }

pub returns : goal.returns
returns c =
    let jobs = c.in_ok-jobs.jobs.items in
    let lines = c.in_ok-jobs.ensures.lines ∙ ap (lines_from 1) c.groups-2.ensures.groups in
    let orders = c.in_ok-jobs.ensures.orders ∙ ap (λ (ts : List TextGroup). map orders_in (map group_value ts)) c.deref.ensures.value in
    record { work = (c.if-pretend.false, refl, jobs_are c.args.chosen jobs c.requires.shape lines orders, refl) }
