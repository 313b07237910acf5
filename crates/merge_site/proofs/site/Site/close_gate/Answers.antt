use Rattle.std.proofs.Common.{◌<◌, ◌^◌, arith, subst, sym, refl}
use Rattle.merge_core.specs.CoreValue.{machine_of}
use Rattle.merge_core.specs.Steps.{IsTaken, event_of}
use Rattle.merge_core.specs.declared.step.Step.TheVariants as steps
use Rattle.merge_site.specs.Booking.{lists_of}
use Rattle.merge_site.proofs.Booked.{booked_on}
use Rattle.merge_site.proofs.Kept.{kept_step, taken_admits}
use Rattle.merge_core.specs.Site.{Performs}
use Rattle.merge_site.proofs.site.Site.close_gate.Goals as goal

pub invariant_of-self : goal.invariant_of-self
invariant_of-self g c =
    let k = c.self.inside.core in
    let small : c.args.group < 2 ^ 32 = omega arith in
    let taken : IsTaken k c.args.group steps.CloseGate = subst (λ a. IsTaken a.keeping c.args.group steps.CloseGate) (sym c.self.view_is) c.requires.taken in (
      kept_step g.T.Tree.tells k c.enter.new.core c.self.inside.log.items c.enter.new.log.items c.self.inside.groups.items c.self.inside.jobs.items
          (g.T.Tree.story c.self.inside.opened.value) (g.T.Tree.story c.self.inside.tree) (g.T.Tree.story c.close_gate-answer.new.tree) c.self.inside.mark c.args.group steps.CloseGate c.is_ok-ok.result small c.self.invariant.0 taken
          (λ t. subst (λ b. Performs (machine_of k) (event_of c.args.group steps.CloseGate) b (g.T.Tree.story c.self.inside.tree) (g.T.Tree.story c.close_gate-answer.new.tree)) (sym c.is_ok-ok.ensures.value) (c.close_gate-answer.ensures.performs t (machine_of k)))
          c.enter.ensures.machine c.enter.ensures.groups c.enter.ensures.log,
      booked_on k c.enter.new.core c.self.inside.log.items c.enter.new.log.items (lists_of c.self.inside.wishes.items) c.self.inside.opened_book.value c.self.inside.book (event_of c.args.group steps.CloseGate) c.is_ok-ok.result refl
          c.self.invariant.0.step.fresh c.self.invariant.1 (taken_admits k c.args.group steps.CloseGate small taken) c.enter.ensures.machine c.enter.ensures.groups c.enter.ensures.log,
    )
