use Rattle.std.proofs.Common.{◌∙◌, inl, refl, subst, sym, true, List}
use Rattle.std.specs.Prelude.{IfErr, OnOk}
use Rattle.std.specs.List.{AllByRecursion}
use Rattle.owner_book.specs.Book.{owner_in}
use Rattle.owner_book.specs.declared.wish.Wish.{Wish}
use Rattle.merge_core.specs.Event.{Claim}
use Rattle.merge_core.specs.CoreValue.{machine_of}
use Rattle.merge_core.specs.Payloads.{IsAt}
use Rattle.merge_core.specs.declared.phase.Phase.TheVariants as phases
use Rattle.merge_site.specs.Booking.{lists_of}
use Rattle.merge_site.specs.Claiming.{AreClear, IsClearFor, IsGranted, IsStop, IsUnownedStop, MayClaim, Stops, StopsAt}
use Rattle.merge_site.proofs.Booked.{booked_claim, claim_apart}
use Rattle.merge_site.proofs.Device.{performed}
use Rattle.merge_site.proofs.Judged.{HasClaim, lists_are, ok_then, said_of_group}
use Rattle.merge_site.proofs.Kept.{kept_on}
use Rattle.merge_site.proofs.site.Site.claim.Goals as goal

pub enter_claim-requires-clause-apart : goal.enter_claim-requires-clause-apart
enter_claim-requires-clause-apart g c =
    let at : IsAt c.self.inside.core c.args.group phases.Sealed = subst (λ a. IsAt a.keeping c.args.group phases.Sealed) (sym c.self.view_is) c.requires.at in
    let are = lists_are c.self.inside.core c.self.inside.wishes.items c.self.inside.groups.items c.args.group c.index-wishes.result.now c.index.result.now c.deref-2.result.now c.deref.result.now c.removals-removals.result.now at c.self.invariant.1.rows c.self.invariant.0.step.groups_all c.index-wishes.ensures c.deref.ensures.value c.index.ensures c.deref-2.ensures.value c.removals-removals.ensures in
    let ok = sym c.is_ok.ensures.value ∙ c.if-is_ok.true in
    let claims = said_of_group (λ d w r. HasClaim c.self.inside.book c.judge_claim-judged.new.book c.args.group w r) c.self.inside.core (lists_of c.self.inside.wishes.items) c.self.inside.groups.items c.args.group c.deref-2.result.now c.deref.result.now c.removals-removals.result.now are (ok_then c.judge_claim-judged.result _ ok c.judge_claim-judged.ensures.claims) in
    let granted = said_of_group (MayClaim c.self.inside.book) c.self.inside.core (lists_of c.self.inside.wishes.items) c.self.inside.groups.items c.args.group c.deref-2.result.now c.deref.result.now c.removals-removals.result.now are (ok_then c.judge_claim-judged.result _ ok c.judge_claim-judged.ensures.granted) in
    claim_apart c.self.inside.core c.self.inside.log.items (lists_of c.self.inside.wishes.items) c.self.inside.opened_book.value c.self.inside.book c.judge_claim-judged.new.book c.args.group c.self.invariant.1 at.phase claims c.claims_are_apart.ensures granted.apart

pub invariant_of-self : goal.invariant_of-self
invariant_of-self g c =
    let at : IsAt c.self.inside.core c.args.group phases.Sealed = subst (λ a. IsAt a.keeping c.args.group phases.Sealed) (sym c.self.view_is) c.requires.at in
    let are = lists_are c.self.inside.core c.self.inside.wishes.items c.self.inside.groups.items c.args.group c.index-wishes.result.now c.index.result.now c.deref-2.result.now c.deref.result.now c.removals-removals.result.now at c.self.invariant.1.rows c.self.invariant.0.step.groups_all c.index-wishes.ensures c.deref.ensures.value c.index.ensures c.deref-2.ensures.value c.removals-removals.ensures in
    let ok = sym c.is_ok.ensures.value ∙ c.if-is_ok.true in
    let claims = said_of_group (λ d w r. HasClaim c.self.inside.book c.judge_claim-judged.new.book c.args.group w r) c.self.inside.core (lists_of c.self.inside.wishes.items) c.self.inside.groups.items c.args.group c.deref-2.result.now c.deref.result.now c.removals-removals.result.now are (ok_then c.judge_claim-judged.result _ ok c.judge_claim-judged.ensures.claims) in
    let old = g.T.Tree.story c.self.inside.tree in
    let new = g.T.Tree.story c.judge_claim-judged.new.tree in (
      kept_on g.T.Tree.tells c.self.inside.core c.enter_claim.new.core c.self.inside.log.items c.enter_claim.new.log.items c.self.inside.groups.items c.self.inside.jobs.items
          (g.T.Tree.story c.self.inside.opened.value) old new c.self.inside.mark (Claim c.args.group) true refl c.self.invariant.0 (inl at.running.1) c.enter_claim.ensures.admitted
          (λ t. performed (machine_of c.self.inside.core) (Claim c.args.group) true old new (c.judge_claim-judged.ensures.same t)) c.enter_claim.ensures.machine c.enter_claim.ensures.groups c.enter_claim.ensures.log,
      booked_claim c.self.inside.core c.enter_claim.new.core c.self.inside.log.items c.enter_claim.new.log.items (lists_of c.self.inside.wishes.items) c.self.inside.opened_book.value c.self.inside.book c.judge_claim-judged.new.book c.args.group c.self.invariant.1 at.phase
          c.enter_claim.ensures.machine c.enter_claim.ensures.groups c.enter_claim.ensures.log (ok_then c.judge_claim-judged.result _ ok c.judge_claim-judged.ensures.owners) claims,
    )

pub returns-then-is_ok-clause-granted : goal.returns-then-is_ok-clause-granted
returns-then-is_ok-clause-granted g c =
    let at : IsAt c.self.inside.core c.args.group phases.Sealed = subst (λ a. IsAt a.keeping c.args.group phases.Sealed) (sym c.self.view_is) c.requires.at in
    let are = lists_are c.self.inside.core c.self.inside.wishes.items c.self.inside.groups.items c.args.group c.index-wishes.result.now c.index.result.now c.deref-2.result.now c.deref.result.now c.removals-removals.result.now at c.self.invariant.1.rows c.self.invariant.0.step.groups_all c.index-wishes.ensures c.deref.ensures.value c.index.ensures c.deref-2.ensures.value c.removals-removals.ensures in
    subst (λ a. OnOk c.judge_claim-judged.result (IsGranted a c.args.group)) c.self.view_is
    (said_of_group (λ d w r. OnOk c.judge_claim-judged.result (MayClaim c.self.inside.book d w r)) c.self.inside.core (lists_of c.self.inside.wishes.items) c.self.inside.groups.items c.args.group c.deref-2.result.now c.deref.result.now c.removals-removals.result.now are c.judge_claim-judged.ensures.granted)

pub returns-then-is_ok-clause-clear : goal.returns-then-is_ok-clause-clear
returns-then-is_ok-clause-clear g c t =
    let at : IsAt c.self.inside.core c.args.group phases.Sealed = subst (λ a. IsAt a.keeping c.args.group phases.Sealed) (sym c.self.view_is) c.requires.at in
    let are = lists_are c.self.inside.core c.self.inside.wishes.items c.self.inside.groups.items c.args.group c.index-wishes.result.now c.index.result.now c.deref-2.result.now c.deref.result.now c.removals-removals.result.now at c.self.invariant.1.rows c.self.invariant.0.step.groups_all c.index-wishes.ensures c.deref.ensures.value c.index.ensures c.deref-2.ensures.value c.removals-removals.ensures in
    subst (λ a. OnOk c.judge_claim-judged.result (AreClear (g.T.Tree.story a.tree).now.holds a c.args.group)) c.self.view_is
    (subst (λ (w : List Wish). OnOk c.judge_claim-judged.result (AllByRecursion (IsClearFor (g.T.Tree.story c.self.inside.tree).now.holds (owner_in c.self.inside.book.owned)) w)) are.wishes (c.judge_claim-judged.ensures.clear t))

pub returns-else-is_ok-clause-stopped : goal.returns-else-is_ok-clause-stopped
returns-else-is_ok-clause-stopped g c =
    let at : IsAt c.self.inside.core c.args.group phases.Sealed = subst (λ a. IsAt a.keeping c.args.group phases.Sealed) (sym c.self.view_is) c.requires.at in
    let are = lists_are c.self.inside.core c.self.inside.wishes.items c.self.inside.groups.items c.args.group c.index-wishes.result.now c.index.result.now c.deref-2.result.now c.deref.result.now c.removals-removals.result.now at c.self.invariant.1.rows c.self.invariant.0.step.groups_all c.index-wishes.ensures c.deref.ensures.value c.index.ensures c.deref-2.ensures.value c.removals-removals.ensures in
    subst (λ a. IfErr c.judge_claim-judged.result (IsStop a c.args.group)) c.self.view_is
    (said_of_group (λ d w r. IfErr c.judge_claim-judged.result (Stops c.self.inside.book d w r)) c.self.inside.core (lists_of c.self.inside.wishes.items) c.self.inside.groups.items c.args.group c.deref-2.result.now c.deref.result.now c.removals-removals.result.now are c.judge_claim-judged.ensures.stopped)

pub returns-else-is_ok-clause-unowned : goal.returns-else-is_ok-clause-unowned
returns-else-is_ok-clause-unowned g c t =
    let at : IsAt c.self.inside.core c.args.group phases.Sealed = subst (λ a. IsAt a.keeping c.args.group phases.Sealed) (sym c.self.view_is) c.requires.at in
    let are = lists_are c.self.inside.core c.self.inside.wishes.items c.self.inside.groups.items c.args.group c.index-wishes.result.now c.index.result.now c.deref-2.result.now c.deref.result.now c.removals-removals.result.now at c.self.invariant.1.rows c.self.invariant.0.step.groups_all c.index-wishes.ensures c.deref.ensures.value c.index.ensures c.deref-2.ensures.value c.removals-removals.ensures in
    subst (λ a. IfErr c.judge_claim-judged.result (IsUnownedStop (g.T.Tree.story a.tree).now.holds a c.args.group)) c.self.view_is
    (subst (λ (w : List Wish). IfErr c.judge_claim-judged.result (StopsAt (g.T.Tree.story c.self.inside.tree).now.holds (owner_in c.self.inside.book.owned) w)) are.wishes (c.judge_claim-judged.ensures.met t))
