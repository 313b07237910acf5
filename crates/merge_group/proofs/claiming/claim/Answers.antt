use Rattle.std.proofs.Common.{◌≡◌, ◌∙◌, refl, sym, subst}
use Rattle.std.specs.Prelude.{IfErr}
use Rattle.std.proofs.lemmas.Result.{err_from_is_err_and}
use Rattle.merge_core.specs.Event.{Claim}
use Rattle.merge_core.specs.CoreValue.{machine_of}
use Rattle.merge_core.specs.declared.phase.Phase.TheVariants as phases
use Rattle.merge_core.proofs.Standings.{set_here}
use Rattle.merge_group.specs.declared.stop.Stop.TheVariants as stops
use Rattle.merge_group.proofs.Staged.{claims_on}
use Rattle.merge_group.proofs.Stopped.{claim_quiet}
use Rattle.merge_group.proofs.Worked.{at_after}
use Rattle.merge_group.proofs.Granted.{claim_stops, granted}
use Rattle.merge_group.proofs.claiming.claim.Goals as goal

pub returns-in_err-claim-clause-claims : goal.returns-in_err-claim-clause-claims
returns-in_err-claim-clause-claims g c = claims_on c.claim.result c.args.site.now c.claim.new.self c.args.group c.requires.at c.claim.ensures.event c.claim.ensures.kept

pub returns-clause-claims : goal.returns-clause-claims
returns-clause-claims g c = claims_on c.claim.result c.args.site.now c.claim.new.self c.args.group c.requires.at c.claim.ensures.event c.claim.ensures.kept

pub returns-clause-at : goal.returns-clause-at
returns-clause-at g c =
    at_after c.args.site.now c.claim.new.self c.args.group (Claim c.args.group) phases.Claimed _ c.in_ok-claim.ensures.event c.requires.at.running refl (set_here (machine_of c.args.site.now.keeping).roll c.args.group _) refl

pub returns-in_err-claim-clause-quiet : goal.returns-in_err-claim-clause-quiet
returns-in_err-claim-clause-quiet g c =
    let p = err_from_is_err_and c.from_residual.result c.from_residual.ensures.1 in
    subst (λ r. IfErr r (λ e. e ≡ stops.Output → ⊥)) (sym p.1) (λ x. claim_quiet _ (sym p.2 ∙ x))

pub returns-in_err-claim-clause-cause : goal.returns-in_err-claim-clause-cause
returns-in_err-claim-clause-cause g c x built =
    let p = err_from_is_err_and c.from_residual.result c.from_residual.ensures.1 in
    let old = c.args.site.now in
    let e = c.in_err-claim.ensures in
    rw (p.1, p.2) (claim_stops g.T.Tree.tells old x c.args.group (g.T.Tree.story old.opened).now.holds (g.T.Tree.story old.tree).now c.in_err-claim.field-0.0 c.requires.at built c.promise.ensures.booked (λ t. (c.promise.ensures.held t).order) e.stopped e.unowned)

pub returns-clause-granted : goal.returns-clause-granted
returns-clause-granted g c x built t =
    let old = c.args.site.now in
    let e = c.in_ok-claim.ensures in
    granted old x c.args.group (g.T.Tree.story old.opened).now.holds (g.T.Tree.story old.tree).now c.requires.at built c.promise.ensures.booked (c.promise.ensures.held t).order e.granted (e.clear t)
