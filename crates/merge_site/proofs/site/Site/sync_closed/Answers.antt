use Rattle.std.proofs.Common.{◌∙◌, ◌<◌, ◌^◌, arith, subst, sym}
use Rattle.std.specs.Prelude.{is_ok}
use Rattle.merge_core.specs.Steps.{IsTaken}
use Rattle.merge_core.specs.declared.step.Step.TheVariants as steps
use Rattle.merge_site.specs.Booking.{lists_of}
use Rattle.merge_site.proofs.Booked.{booked_end}
use Rattle.merge_site.proofs.Kept.{kept_step, taken_admits}
use Rattle.merge_site.proofs.site.Site.sync_closed.Goals as goal

pub invariant_of-self : goal.invariant_of-self
invariant_of-self g c =
    let k = c.self.inside.core in
    let ok = is_ok c.sync_step-answer.result in
    let small : c.args.group < 2 ^ 32 = omega arith in
    let taken : IsTaken k c.args.group steps.SyncClosed = subst (λ a. IsTaken a.keeping c.args.group steps.SyncClosed) (sym c.self.view_is) c.requires.taken in (
      kept_step g.T.Tree.tells k c.sync_step-answer.new.core c.self.inside.log.items c.sync_step-answer.new.log.items c.self.inside.groups.items c.self.inside.jobs.items
          (g.T.Tree.story c.self.inside.opened.value) (g.T.Tree.story c.self.inside.tree) (g.T.Tree.story c.sync_step-answer.new.tree) c.self.inside.mark c.args.group steps.SyncClosed ok small c.self.invariant.0 taken
          c.sync_step-answer.ensures.performs
          c.sync_step-answer.ensures.machine c.sync_step-answer.ensures.groups c.sync_step-answer.ensures.log,
      booked_end k c.sync_step-answer.new.core c.self.inside.log.items c.sync_step-answer.new.log.items (lists_of c.self.inside.wishes.items) c.self.inside.opened_book.value c.self.inside.book c.settle_synced.new.book c.args.group ok
          c.self.invariant.0.step.fresh c.self.invariant.1 (taken_admits k c.args.group steps.SyncClosed small taken) taken.phase
          c.sync_step-answer.ensures.machine c.sync_step-answer.ensures.groups c.sync_step-answer.ensures.log
          (λ e. c.settle_synced.ensures.owners (c.is_ok.ensures.value ∙ e)) (λ e. c.settle_synced.ensures.claims (c.is_ok.ensures.value ∙ e)) (λ e. c.settle_synced.ensures.before (c.is_ok.ensures.value ∙ e)),
    )
