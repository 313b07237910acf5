use Rattle.std.proofs.Common.{subst}
use Rattle.std.proofs.lemmas.Result.{IfOk-weaker}
use Rattle.plan_model.specs.Accepting.{Breaks}
use Rattle.emerge_find.proofs.Told.{of_link}
use Rattle.emerge_find.proofs.filing.of_unaccepted.Goals as goal

pub returns-in-Unlinked : goal.returns-in-Unlinked
returns-in-Unlinked c = IfOk-weaker c.of_link.result _ _ (λ e is. λ installed groups breaks.
    of_link installed c.args.offered.now c.args.hidden.now groups c.in-Unlinked.fault e is
    (λ other. subst (Breaks installed c.args.offered.now groups) c.in-Unlinked.is breaks)) c.of_link.ensures
