use Rattle.std.proofs.Common.{◌<◌, ◌^◌, arith, subst, sym, refl}
use Rattle.std.specs.Prelude.{is_ok}
use Rattle.merge_core.specs.Steps.{IsTaken, event_of}
use Rattle.merge_core.specs.declared.step.Step.TheVariants as steps
use Rattle.merge_site.specs.Booking.{lists_of}
use Rattle.merge_site.proofs.Booked.{booked_on}
use Rattle.merge_site.proofs.Kept.{kept_step, taken_admits}
use Rattle.merge_site.proofs.site.Site.sync_gate.Goals as goal

pub invariant_of-self : goal.invariant_of-self
invariant_of-self g c =
    let k = c.self.inside.core in
    let small : c.args.group < 2 ^ 32 = omega arith in
    let taken : IsTaken k c.args.group steps.SyncGate = subst (λ a. IsTaken a.keeping c.args.group steps.SyncGate) (sym c.self.view_is) c.requires.taken in (
      kept_step g.T.Tree.tells k c.sync_step.new.core c.self.inside.log.items c.sync_step.new.log.items c.self.inside.groups.items c.self.inside.jobs.items
          (g.T.Tree.story c.self.inside.opened.value) (g.T.Tree.story c.self.inside.tree) (g.T.Tree.story c.sync_step.new.tree) c.self.inside.mark c.args.group steps.SyncGate (is_ok c.sync_step.result) small c.self.invariant.0 taken
          c.sync_step.ensures.performs
          c.sync_step.ensures.machine c.sync_step.ensures.groups c.sync_step.ensures.log,
      booked_on k c.sync_step.new.core c.self.inside.log.items c.sync_step.new.log.items (lists_of c.self.inside.wishes.items) c.self.inside.opened_book.value c.self.inside.book (event_of c.args.group steps.SyncGate) (is_ok c.sync_step.result) refl
          c.self.invariant.0.step.fresh c.self.invariant.1 (taken_admits k c.args.group steps.SyncGate small taken) c.sync_step.ensures.machine c.sync_step.ensures.groups c.sync_step.ensures.log,
    )
