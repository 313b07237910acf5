use Rattle.std.proofs.Common.{◌≡◌, ◌<◌, ◌++◌, ◌∷◌, ◌∙◌, [], ℕ, Bool, List, not, ap, inl, length, subst, sym, arith}
use Rattle.owner_book.specs.declared.wish.Wish.{Wish}
use Rattle.merge_record.specs.declared.record.Placement.{Placement}
use Rattle.file_tree.specs.ObjectValue.{ObjectValue}
use Rattle.merge_journal.specs.Names.{stage_path}
use Rattle.merge_core.specs.Event.{PutStage, answered}
use Rattle.merge_core.specs.CoreValue.{machine_of}
use Rattle.merge_core.specs.Payloads.{IsAt}
use Rattle.merge_core.specs.declared.phase.Phase.TheVariants as phases
use Rattle.merge_site.specs.Staging.{HasPast}
use Rattle.merge_site.specs.Booking.{IsBooked, lists_of}
use Rattle.merge_site.proofs.Booked.{booked_on, booked_stage}
use Rattle.merge_site.proofs.Kept.{kept_by}
use Rattle.merge_site.proofs.Reading.{got}
use Rattle.merge_site.proofs.Staged.{made_then, next_place, staged_count_is, step_more, step_staged}
use Rattle.merge_site.proofs.site.Site.stage.Goals as goal

pub make_place-requires-clause-next : goal.make_place-requires-clause-next
make_place-requires-clause-next g c p at =
    let k = c.self.inside.core in
    let paths = c.self.invariant.0.step.paths c.args.group p at in
    let count = staged_count_is k c.args.group c.self.invariant.0.possible in
    omega (arith, c.staged-staged.ensures, count, paths)

pub stage-place-requires : goal.stage-place-requires
stage-place-requires g c =
    let k = c.self.inside.core in
    let jobs = c.make_place.new.jobs.items in
    let at : IsAt k c.args.group phases.Building = subst (λ a. IsAt a.keeping c.args.group phases.Building) (sym c.self.view_is) c.requires.at in
    let step = step_more k c.self.inside.groups.items c.self.inside.jobs.items jobs c.self.invariant.0.step c.make_place.ensures.more in
    let there : c.args.group < length jobs = subst (λ (n : ℕ). c.args.group < n) (sym step.payloads_all) at.running.0 in
    made_then c.make_place.result (HasPast jobs c.args.group c.staged-staged.result) (sym c.is_err.ensures.value ∙ c.if-is_err.false) c.make_place.ensures.made
    c.index.result.now (got jobs c.args.group c.index.result.now there c.index.ensures)

pub enter_stage-answer-requires-clause-place : goal.enter_stage-answer-requires-clause-place
enter_stage-answer-requires-clause-place g c =
    let k = c.self.inside.core in
    let jobs = c.make_place.new.jobs.items in
    let at : IsAt k c.args.group phases.Building = subst (λ a. IsAt a.keeping c.args.group phases.Building) (sym c.self.view_is) c.requires.at in
    let step = step_more k c.self.inside.groups.items c.self.inside.jobs.items jobs c.self.invariant.0.step c.make_place.ensures.more in
    next_place c.self.inside.groups.items jobs k c.args.group c.index.result.now c.staged-staged.result c.stage-place.result.now step at.running.0 c.index.ensures c.stage-place.ensures
    ∙ ap (stage_path c.args.group) c.staged-staged.ensures

pub invariant_of-self-in-Ok-true : goal.invariant_of-self-in-Ok-true
invariant_of-self-in-Ok-true g c =
    let k = c.self.inside.core in
    let jobs = c.make_place.new.jobs.items in
    let xs = c.self.inside.groups.items in
    let p = c.placement_of-placement.result in
    let o : ObjectValue = record { kind = c.entry.inside.0.1.0.kind; bytes = c.entry.inside.0.1.0.bytes.items } in
    let ok = c.in-Ok-true.field-0 in
    let said = c.in-Ok-true.ensures in
    let at : IsAt k c.args.group phases.Building = subst (λ a. IsAt a.keeping c.args.group phases.Building) (sym c.self.view_is) c.requires.at in
    let step = step_more k xs c.self.inside.jobs.items jobs c.self.invariant.0.step c.make_place.ensures.more in
    let past = made_then c.make_place.result (HasPast jobs c.args.group c.staged-staged.result) (sym c.is_err.ensures.value ∙ c.if-is_err.false) c.make_place.ensures.made in
    let booked = c.self.invariant.1 in
    let lt = subst (λ (n : ℕ). c.args.group < n) (sym booked.rows) at.running.0 in
    let added = made_then c.add_wish.result _ (sym c.is_err-2.ensures.value ∙ c.if-is_err-2.false) c.add_wish.ensures.ok in (
      kept_by g.T.Tree.tells k c.enter_stage-answer.new.core c.self.inside.log.items c.enter_stage-answer.new.log.items xs c.self.inside.jobs.items jobs
          (g.T.Tree.story c.self.inside.opened.value) (g.T.Tree.story c.self.inside.tree) (g.T.Tree.story c.enter_stage-answer.new.tree) c.self.inside.mark (PutStage c.args.group p o) ok c.self.invariant.0
          (inl at.running.1) said.admitted said.performs said.machine said.log
          (step_staged k c.enter_stage-answer.new.core xs jobs c.args.group p o ok step c.self.invariant.0.possible said.machine at.phase
          (subst (λ (n : ℕ). HasPast jobs c.args.group n) c.staged-staged.ensures past) said.groups),
      subst (λ (l : List (List Wish)). IsBooked c.enter_stage-answer.new.core c.enter_stage-answer.new.log.items l c.self.inside.opened_book.value c.self.inside.book) (sym added)
          (booked_stage k c.enter_stage-answer.new.core c.self.inside.log.items c.enter_stage-answer.new.log.items (lists_of c.self.inside.wishes.items) c.self.inside.opened_book.value c.self.inside.book c.args.group p o _
          (sym (ap (λ (x : Placement). x.path) c.placement_of-placement.ensures)) booked at.running.0 at.phase
          (subst (λ (x : Bool). machine_of c.enter_stage-answer.new.core ≡ answered (machine_of k) (PutStage c.args.group p o) x) c.in-Ok-true.field-0-test said.machine) said.groups
          (subst (λ (x : Bool). c.enter_stage-answer.new.log.items ≡ c.self.inside.log.items ++ (PutStage c.args.group p o, x) ∷ []) c.in-Ok-true.field-0-test said.log)),
    )

pub invariant_of-self-in-Ok-false : goal.invariant_of-self-in-Ok-false
invariant_of-self-in-Ok-false g c =
    let k = c.self.inside.core in
    let jobs = c.make_place.new.jobs.items in
    let xs = c.self.inside.groups.items in
    let p = c.placement_of-placement.result in
    let o : ObjectValue = record { kind = c.entry.inside.0.1.0.kind; bytes = c.entry.inside.0.1.0.bytes.items } in
    let ok = c.in-Ok-false.field-0 in
    let said = c.in-Ok-false.ensures in
    let at : IsAt k c.args.group phases.Building = subst (λ a. IsAt a.keeping c.args.group phases.Building) (sym c.self.view_is) c.requires.at in
    let step = step_more k xs c.self.inside.jobs.items jobs c.self.invariant.0.step c.make_place.ensures.more in
    let past = made_then c.make_place.result (HasPast jobs c.args.group c.staged-staged.result) (sym c.is_err.ensures.value ∙ c.if-is_err.false) c.make_place.ensures.made in
    let booked = c.self.invariant.1 in
    let lt = subst (λ (n : ℕ). c.args.group < n) (sym booked.rows) at.running.0 in
    let added = made_then c.add_wish.result _ (sym c.is_err-2.ensures.value ∙ c.if-is_err-2.false) c.add_wish.ensures.ok in
    let dropped = c.unstaged.ensures.wishes (lists_of c.self.inside.wishes.items) _ lt added in (
      kept_by g.T.Tree.tells k c.enter_stage-answer.new.core c.self.inside.log.items c.enter_stage-answer.new.log.items xs c.self.inside.jobs.items jobs
          (g.T.Tree.story c.self.inside.opened.value) (g.T.Tree.story c.self.inside.tree) (g.T.Tree.story c.enter_stage-answer.new.tree) c.self.inside.mark (PutStage c.args.group p o) ok c.self.invariant.0
          (inl at.running.1) said.admitted said.performs said.machine said.log
          (step_staged k c.enter_stage-answer.new.core xs jobs c.args.group p o ok step c.self.invariant.0.possible said.machine at.phase
          (subst (λ (n : ℕ). HasPast jobs c.args.group n) c.staged-staged.ensures past) said.groups),
      subst (λ (l : List (List Wish)). IsBooked c.enter_stage-answer.new.core c.enter_stage-answer.new.log.items l c.self.inside.opened_book.value c.self.inside.book) (sym dropped)
          (booked_on k c.enter_stage-answer.new.core c.self.inside.log.items c.enter_stage-answer.new.log.items (lists_of c.self.inside.wishes.items) c.self.inside.opened_book.value c.self.inside.book (PutStage c.args.group p o) ok (ap not c.in-Ok-false.field-0-test)
          c.self.invariant.0.step.fresh booked said.admitted said.machine said.groups said.log),
    )
