use Rattle.std.proofs.Common.{arith}
use Rattle.plan_rules.proofs.Judged.{at_item}
use Rattle.plan_rules.proofs.room.judge_room.Goals as goal

pub judge_life-requires-clause-at_place : goal.judge_life-requires-clause-at_place
judge_life-requires-clause-at_place c = at_item c.args.all.now c.loop-i.i c.index-all-i.result (omega arith) c.index-all-i.is
