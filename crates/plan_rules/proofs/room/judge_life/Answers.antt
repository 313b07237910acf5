use Rattle.plan_lives.specs.Index.{all_lives, plan_of}
use Rattle.plan_lives.specs.Lives.{life_of, lives_of}
use Rattle.plan_rules.proofs.Hindered.{room_free, within_all}
use Rattle.plan_rules.proofs.room.judge_life.Goals as goal

pub judge_all-requires-clause-x : goal.judge_all-requires-clause-x
judge_all-requires-clause-x c = within_all (all_lives c.args.index.now) (lives_of c.args.all.now) c.requires.order c.args.i (life_of c.args.x.now) c.requires.at_place

pub returns-then-branch : goal.returns-then-branch
returns-then-branch c = room_free (plan_of c.args.index.now) (lives_of c.args.all.now) c.args.i (life_of c.args.x.now) (c.in_ok-has_room.ensures c.if-branch.true)
