use Rattle.std.proofs.Common.{◌<◌, ◌^◌, arith, refl, subst, sym, true}
use Rattle.merge_core.specs.CoreValue.{machine_of}
use Rattle.merge_core.specs.Steps.{IsTaken, event_of}
use Rattle.merge_core.specs.declared.step.Step.TheVariants as steps
use Rattle.merge_site.specs.Booking.{lists_of}
use Rattle.merge_site.proofs.Booked.{booked_on}
use Rattle.merge_site.proofs.Kept.{kept_step, taken_admits}
use Rattle.merge_site.proofs.Device.{performed}
use Rattle.merge_site.proofs.site.Site.abandon.Goals as goal

pub invariant_of-self : goal.invariant_of-self
invariant_of-self g c =
    let k = c.self.inside.core in
    let small : c.args.group < 2 ^ 32 = omega arith in
    let taken : IsTaken k c.args.group steps.Abandon = subst (λ a. IsTaken a.keeping c.args.group steps.Abandon) (sym c.self.view_is) c.requires.taken in (
      kept_step g.T.Tree.tells k c.enter.new.core c.self.inside.log.items c.enter.new.log.items c.self.inside.groups.items c.self.inside.jobs.items
          (g.T.Tree.story c.self.inside.opened.value) (g.T.Tree.story c.self.inside.tree) (g.T.Tree.story c.self.inside.tree) c.self.inside.mark c.args.group steps.Abandon true small c.self.invariant.0 taken
          (λ t. performed (machine_of k) (event_of c.args.group steps.Abandon) true (g.T.Tree.story c.self.inside.tree) (g.T.Tree.story c.self.inside.tree) refl)
          c.enter.ensures.machine c.enter.ensures.groups c.enter.ensures.log,
      booked_on k c.enter.new.core c.self.inside.log.items c.enter.new.log.items (lists_of c.self.inside.wishes.items) c.self.inside.opened_book.value c.self.inside.book (event_of c.args.group steps.Abandon) true refl
          c.self.invariant.0.step.fresh c.self.invariant.1 (taken_admits k c.args.group steps.Abandon small taken) c.enter.ensures.machine c.enter.ensures.groups c.enter.ensures.log,
    )
