use Rattle.std.proofs.Common.{◌<◌, ◌^◌, arith, refl, subst, sym, ◌∙◌}
use Rattle.merge_core.specs.CoreValue.{machine_of}
use Rattle.merge_core.specs.Steps.{IsTaken, event_of}
use Rattle.merge_core.specs.declared.step.Step.TheVariants as steps
use Rattle.merge_site.specs.Booking.{lists_of}
use Rattle.merge_site.proofs.Booked.{booked_on}
use Rattle.merge_site.proofs.Kept.{kept_step, taken_admits}
use Rattle.merge_core.specs.Site.{Performs}
use Rattle.std.specs.Prelude.{IsSome}
use Rattle.merge_core.specs.Core.{standing_in}
use Rattle.merge_site.proofs.Lines.{stage_is}
use Rattle.merge_site.proofs.Reading.{runs, stage_differs, stage_there}
use Rattle.merge_site.proofs.site.Site.place.Goals as goal

pub place_path-answer-requires-clause-differ : goal.place_path-answer-requires-clause-differ
place_path-answer-requires-clause-differ g c e =
    let k = c.self.inside.core in
    let small : c.args.group < 2 ^ 32 = omega arith in
    let taken : IsTaken k c.args.group steps.PlacePath = subst (λ a. IsTaken a.keeping c.args.group steps.PlacePath) (sym c.self.view_is) c.requires.taken in
    let can = c.self.invariant.0.possible in
    let at = stage_is c.self.inside.groups.items c.self.inside.jobs.items k c.args.group c.index.result.now c.placed.result c.stage-stage.result.now c.self.invariant.0.step taken.comes.0 c.index.ensures c.stage-stage.ensures c.placed.ensures in
    stage_differs can.opening (machine_of k) can.disk c.args.group (standing_in k.standings c.args.group).placed c.in-Some.placement.now can.order taken.phase (sym c.in-Some.ensures) (sym at ∙ e)

pub place_path-answer-requires-clause-there : goal.place_path-answer-requires-clause-there
place_path-answer-requires-clause-there g c t =
    let k = c.self.inside.core in
    let small : c.args.group < 2 ^ 32 = omega arith in
    let taken : IsTaken k c.args.group steps.PlacePath = subst (λ a. IsTaken a.keeping c.args.group steps.PlacePath) (sym c.self.view_is) c.requires.taken in
    let at = stage_is c.self.inside.groups.items c.self.inside.jobs.items k c.args.group c.index.result.now c.placed.result c.stage-stage.result.now c.self.invariant.0.step taken.comes.0 c.index.ensures c.stage-stage.ensures c.placed.ensures in
    let now = (g.T.Tree.story c.self.inside.tree).now in
    subst (λ q. IsSome (now.holds q)) (sym at)
    (stage_there (g.T.Tree.story c.self.inside.opened.value).now.holds (machine_of k) now c.args.group (standing_in k.standings c.args.group).placed c.in-Some.placement.now (c.self.invariant.0.held t).order (runs (machine_of k) taken.comes.1) small (sym c.in-Some.ensures))

pub invariant_of-self : goal.invariant_of-self
invariant_of-self g c =
    let k = c.self.inside.core in
    let small : c.args.group < 2 ^ 32 = omega arith in
    let taken : IsTaken k c.args.group steps.PlacePath = subst (λ a. IsTaken a.keeping c.args.group steps.PlacePath) (sym c.self.view_is) c.requires.taken in (
      kept_step g.T.Tree.tells k c.enter.new.core c.self.inside.log.items c.enter.new.log.items c.self.inside.groups.items c.self.inside.jobs.items
          (g.T.Tree.story c.self.inside.opened.value) (g.T.Tree.story c.self.inside.tree) (g.T.Tree.story c.place_path-answer.new.tree) c.self.inside.mark c.args.group steps.PlacePath c.is_ok-ok.result small c.self.invariant.0 taken
          (λ t. subst (λ b. Performs (machine_of k) (event_of c.args.group steps.PlacePath) b (g.T.Tree.story c.self.inside.tree) (g.T.Tree.story c.place_path-answer.new.tree)) (sym c.is_ok-ok.ensures.value) (c.place_path-answer.ensures.performs t (machine_of k) c.in-Some.placement.now (sym c.in-Some.ensures)
          (stage_is c.self.inside.groups.items c.self.inside.jobs.items k c.args.group c.index.result.now c.placed.result c.stage-stage.result.now c.self.invariant.0.step taken.comes.0 c.index.ensures c.stage-stage.ensures c.placed.ensures) refl))
          c.enter.ensures.machine c.enter.ensures.groups c.enter.ensures.log,
      booked_on k c.enter.new.core c.self.inside.log.items c.enter.new.log.items (lists_of c.self.inside.wishes.items) c.self.inside.opened_book.value c.self.inside.book (event_of c.args.group steps.PlacePath) c.is_ok-ok.result refl
          c.self.invariant.0.step.fresh c.self.invariant.1 (taken_admits k c.args.group steps.PlacePath small taken) c.enter.ensures.machine c.enter.ensures.groups c.enter.ensures.log,
    )
