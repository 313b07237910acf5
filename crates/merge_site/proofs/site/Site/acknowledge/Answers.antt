use Rattle.std.proofs.Common.{◌<◌, ◌^◌, arith, refl, subst, sym}
use Rattle.merge_core.specs.CoreValue.{machine_of}
use Rattle.merge_core.specs.Steps.{IsTaken, event_of}
use Rattle.merge_core.specs.declared.step.Step.TheVariants as steps
use Rattle.merge_site.specs.Booking.{lists_of}
use Rattle.merge_site.proofs.Booked.{booked_on}
use Rattle.merge_site.proofs.Kept.{kept_step, taken_admits}
use Rattle.merge_site.proofs.Device.{performed}
use Rattle.std.specs.Prelude.{is_ok}
use Rattle.merge_site.specs.Site.{Writes}
use Rattle.merge_site.proofs.Lines.{line_written}
use Rattle.merge_site.proofs.site.Site.acknowledge.Goals as goal

pub invariant_of-self : goal.invariant_of-self
invariant_of-self g c =
    let k = c.self.inside.core in
    let small : c.args.group < 2 ^ 32 = omega arith in
    let taken : IsTaken k c.args.group steps.Acknowledge = subst (λ a. IsTaken a.keeping c.args.group steps.Acknowledge) (sym c.self.view_is) c.requires.taken in (
      kept_step g.T.Tree.tells k c.enter.new.core c.self.inside.log.items c.enter.new.log.items c.self.inside.groups.items c.self.inside.jobs.items
          (g.T.Tree.story c.self.inside.opened.value) (g.T.Tree.story c.self.inside.tree) (g.T.Tree.story c.self.inside.tree) c.self.inside.mark c.args.group steps.Acknowledge c.is_ok-ok.result small c.self.invariant.0 taken
          (λ t. performed (machine_of k) (event_of c.args.group steps.Acknowledge) c.is_ok-ok.result (g.T.Tree.story c.self.inside.tree) (g.T.Tree.story c.self.inside.tree) refl)
          c.enter.ensures.machine c.enter.ensures.groups c.enter.ensures.log,
      booked_on k c.enter.new.core c.self.inside.log.items c.enter.new.log.items (lists_of c.self.inside.wishes.items) c.self.inside.opened_book.value c.self.inside.book (event_of c.args.group steps.Acknowledge) c.is_ok-ok.result refl
          c.self.invariant.0.step.fresh c.self.invariant.1 (taken_admits k c.args.group steps.Acknowledge small taken) c.enter.ensures.machine c.enter.ensures.groups c.enter.ensures.log,
    )

pub returns-clause-writes : goal.returns-clause-writes
returns-clause-writes g c t =
    subst (λ a. Writes a.groups c.args.group (is_ok c.write-answer.result) (g.S.Sink.written a.sink) (g.S.Sink.written c.write-answer.new.self)) c.self.view_is
    (line_written c.self.inside.groups.items c.args.group c.index.result.now c.write-answer.result (g.S.Sink.written c.self.inside.sink) (g.S.Sink.written c.write-answer.new.self) c.deref.result.now
    c.index.ensures c.deref.ensures.value (c.write-answer.ensures.ok t) (c.write-answer.ensures.moved t))
