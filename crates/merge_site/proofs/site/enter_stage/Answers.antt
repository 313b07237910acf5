use Rattle.std.proofs.Common.{ℕ, List, Some, subst}
use Rattle.merge_core.specs.Event.{Answers, Asks, PutStage}
use Rattle.merge_core.specs.CoreValue.{machine_of}
use Rattle.merge_site.proofs.Device.{performed}
use Rattle.merge_site.proofs.site.enter_stage.Goals as goal

pub returns-in-Ok-clause-performs : goal.returns-in-Ok-clause-performs
returns-in-Ok-clause-performs g c t =
    let old = g.T.Tree.story c.args.tree.now in
    let new = g.T.Tree.story c.stage_on.new.tree in
    performed (machine_of c.args.core.now) (PutStage c.args.group c.args.placement c.args.object.now) c.in-Ok.ok old new
    (subst (λ (q : List ℕ). Answers (Asks q (Some c.args.object.now)) c.in-Ok.ok old new) c.requires.place (c.in-Ok.ensures.answers t))
