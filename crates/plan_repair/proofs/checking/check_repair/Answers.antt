use Rattle.plan_check.specs.Asks.{all_asked}
use Rattle.plan_repair.proofs.Repairs.{fine, refused_told, repairs}
use Rattle.plan_repair.proofs.Whole.{wholly}
use Rattle.plan_repair.proofs.checking.check_repair.Goals as goal

pub returns-clause-ok : goal.returns-clause-ok
returns-clause-ok c = repairs c.args.plan.now c.args.start.now (all_asked c.args.asks.now) c.judge.result c.judge.ensures

pub returns-clause-whole : goal.returns-clause-whole
returns-clause-whole c = wholly c.args.plan.now c.args.start.now (all_asked c.args.asks.now) c.requires c.judge.result (repairs c.args.plan.now c.args.start.now (all_asked c.args.asks.now) c.judge.result c.judge.ensures)

pub returns-clause-refused : goal.returns-clause-refused
returns-clause-refused c = refused_told c.args.plan.now c.args.start.now (all_asked c.args.asks.now) c.judge.result c.judge.ensures

pub returns-clause-fine : goal.returns-clause-fine
returns-clause-fine c ok = fine c.args.plan.now c.args.start.now (all_asked c.args.asks.now) c.judge.result (refused_told c.args.plan.now c.args.start.now (all_asked c.args.asks.now) c.judge.result c.judge.ensures) ok
