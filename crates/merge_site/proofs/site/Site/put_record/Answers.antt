use Rattle.std.proofs.Common.{◌≡◌, ℕ, List, inl, refl, subst, sym}
use Rattle.file_tree.specs.ObjectValue.{plain}
use Rattle.merge_record.specs.Spelling.{spelling}
use Rattle.merge_core.specs.Event.{PutRecord, put_content}
use Rattle.merge_core.specs.CoreValue.{CoreValue, machine_of}
use Rattle.merge_core.specs.Payloads.{IsAt}
use Rattle.merge_core.specs.Site.{Performs}
use Rattle.merge_core.specs.declared.phase.Phase.TheVariants as phases
use Rattle.merge_site.specs.Booking.{IsBooked, lists_of}
use Rattle.merge_site.specs.Site.{IsSiteInOrder}
use Rattle.merge_site.proofs.Booked.{booked_on}
use Rattle.merge_site.proofs.Kept.{kept_on}
use Rattle.merge_site.proofs.site.Site.put_record.Goals as goal

pub invariant_of-self-in-Ok-answer : goal.invariant_of-self-in-Ok-answer
invariant_of-self-in-Ok-answer g c =
    let k = c.spell_record.new.self in
    let start = g.T.Tree.story c.self.inside.opened.value in
    let old = g.T.Tree.story c.self.inside.tree in
    let new = g.T.Tree.story c.put_record-answer.new.tree in
    let removals = c.in-Ok.spelled.0.items in
    let e = PutRecord c.args.group removals in
    let same = sym c.spell_record.ensures.kept in
    let kept = subst (λ (x : CoreValue). IsSiteInOrder g.T.Tree.tells x c.self.inside.log.items c.self.inside.groups.items c.self.inside.jobs.items start old c.self.inside.mark) same c.self.invariant.0 in
    let at = subst (λ (x : CoreValue). IsAt x c.args.group phases.Building) same (subst (λ a. IsAt a.keeping c.args.group phases.Building) (sym c.self.view_is) c.requires.at) in
    let spelled = subst (λ (x : CoreValue). c.in-Ok.spelled.1 ≡ plain (spelling (put_content (machine_of x) c.args.group removals))) same
    (subst (λ (l : List (List ℕ)). c.in-Ok.spelled.1 ≡ plain (spelling (put_content (machine_of c.self.inside.core) c.args.group l))) (sym c.in-Ok.ensures.removals) c.in-Ok.ensures.object) in
    let booked = subst (λ (x : CoreValue). IsBooked x c.self.inside.log.items (lists_of c.self.inside.wishes.items) c.self.inside.opened_book.value c.self.inside.book) same c.self.invariant.1 in (
      kept_on g.T.Tree.tells k c.enter_record.new.core c.self.inside.log.items c.enter_record.new.log.items c.self.inside.groups.items c.self.inside.jobs.items
          start old new c.self.inside.mark e c.is_ok-ok.result refl kept (inl at.running.1) c.enter_record.ensures.admitted
          (λ t. subst (λ b. Performs (machine_of k) e b old new) (sym c.is_ok-ok.ensures.value) (c.put_record-answer.ensures.performs t (machine_of k) removals spelled))
          c.enter_record.ensures.machine c.enter_record.ensures.groups c.enter_record.ensures.log,
      booked_on k c.enter_record.new.core c.self.inside.log.items c.enter_record.new.log.items (lists_of c.self.inside.wishes.items) c.self.inside.opened_book.value c.self.inside.book e c.is_ok-ok.result refl
          kept.step.fresh booked c.enter_record.ensures.admitted c.enter_record.ensures.machine c.enter_record.ensures.groups c.enter_record.ensures.log,
    )

pub invariant_of-self-2 : goal.invariant_of-self-2
invariant_of-self-2 g c =
    let k = c.spell_record.new.self in
    let start = g.T.Tree.story c.self.inside.opened.value in
    let old = g.T.Tree.story c.self.inside.tree in
    let new = g.T.Tree.story c.put_record-answer.new.tree in
    let removals = c.in-Ok.spelled.0.items in
    let e = PutRecord c.args.group removals in
    let same = sym c.spell_record.ensures.kept in
    let kept = subst (λ (x : CoreValue). IsSiteInOrder g.T.Tree.tells x c.self.inside.log.items c.self.inside.groups.items c.self.inside.jobs.items start old c.self.inside.mark) same c.self.invariant.0 in
    let at = subst (λ (x : CoreValue). IsAt x c.args.group phases.Building) same (subst (λ a. IsAt a.keeping c.args.group phases.Building) (sym c.self.view_is) c.requires.at) in
    let spelled = subst (λ (x : CoreValue). c.in-Ok.spelled.1 ≡ plain (spelling (put_content (machine_of x) c.args.group removals))) same
    (subst (λ (l : List (List ℕ)). c.in-Ok.spelled.1 ≡ plain (spelling (put_content (machine_of c.self.inside.core) c.args.group l))) (sym c.in-Ok.ensures.removals) c.in-Ok.ensures.object) in
    let booked = subst (λ (x : CoreValue). IsBooked x c.self.inside.log.items (lists_of c.self.inside.wishes.items) c.self.inside.opened_book.value c.self.inside.book) same c.self.invariant.1 in (
      kept_on g.T.Tree.tells k c.enter_record.new.core c.self.inside.log.items c.enter_record.new.log.items c.self.inside.groups.items c.self.inside.jobs.items
          start old new c.self.inside.mark e c.is_ok-ok.result refl kept (inl at.running.1) c.enter_record.ensures.admitted
          (λ t. subst (λ b. Performs (machine_of k) e b old new) (sym c.is_ok-ok.ensures.value) (c.put_record-answer.ensures.performs t (machine_of k) removals spelled))
          c.enter_record.ensures.machine c.enter_record.ensures.groups c.enter_record.ensures.log,
      booked_on k c.enter_record.new.core c.self.inside.log.items c.enter_record.new.log.items (lists_of c.self.inside.wishes.items) c.self.inside.opened_book.value c.self.inside.book e c.is_ok-ok.result refl
          kept.step.fresh booked c.enter_record.ensures.admitted c.enter_record.ensures.machine c.enter_record.ensures.groups c.enter_record.ensures.log,
    )
