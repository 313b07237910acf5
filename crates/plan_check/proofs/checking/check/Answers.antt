use Rattle.plan_check.specs.Asks.{all_asked}
use Rattle.plan_check.proofs.Clear.{bound_if, fine, passed, passed_none, refused_told, sound_if}
use Rattle.plan_check.proofs.checking.check.Goals as goal

pub returns-clause-ok : goal.returns-clause-ok
returns-clause-ok c = passed c.args.plan.now c.args.start.now (all_asked c.args.asks.now) c.judge.result c.judge.ensures

pub returns-clause-bound : goal.returns-clause-bound
returns-clause-bound c = bound_if c.args.plan.now c.args.start.now (all_asked c.args.asks.now) c.judge.result c.judge.ensures

pub returns-clause-sound : goal.returns-clause-sound
returns-clause-sound c = sound_if c.args.plan.now c.args.start.now c.judge.result (c.accepted_plans_are_sound.ensures c.args.plan.now c.args.start.now c.groups-groups.ensures.form.earlier) (passed c.args.plan.now c.args.start.now (all_asked c.args.asks.now) c.judge.result c.judge.ensures)

pub returns-clause-passed : goal.returns-clause-passed
returns-clause-passed c = passed_none c.args.plan.now c.args.start.now (all_asked c.args.asks.now) c.judge.result c.judge.ensures

pub returns-clause-refused : goal.returns-clause-refused
returns-clause-refused c = refused_told c.args.plan.now c.args.start.now (all_asked c.args.asks.now) c.judge.result c.judge.ensures

pub returns-clause-fine : goal.returns-clause-fine
returns-clause-fine c ok right = fine c.args.plan.now c.args.start.now (all_asked c.args.asks.now) c.judge.result (refused_told c.args.plan.now c.args.start.now (all_asked c.args.asks.now) c.judge.result c.judge.ensures) ok right
