use Rattle.merge_core.proofs.Kept.{kept}
use Rattle.merge_core.proofs.machine.Core.step.Goals as goal

pub returns-clause-done : goal.returns-clause-done
returns-clause-done c = rw (c.go.ensures) (kept c.args.self.now c.args.group c.args.step c.args.ok c.in_ok-judge.ensures.taken.comes.0)
