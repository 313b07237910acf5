use Rattle.std.proofs.Common.{ap, rules}
use Rattle.std.proofs.lemmas.Result.{IfOk-weaker}
use Rattle.plan_law.specs.Lives as law
use Rattle.plan_lives.specs.Index.{all_lives, plan_of}
use Rattle.plan_lives.specs.Lives.{life_of, lives_of, moment_of}
use Rattle.plan_rules.proofs.Hindered.{not_hindered, within_all}
use Rattle.plan_rules.proofs.room.has_room.Goals as goal

pub is_single-requires-clause-x : goal.is_single-requires-clause-x
is_single-requires-clause-x c = within_all (all_lives c.args.index.now) (lives_of c.args.all.now) c.requires.order c.args.i (life_of c.args.x.now) c.requires.at_place

pub line_is_free-requires-clause-comes : goal.line_is_free-requires-clause-comes
line_is_free-requires-clause-comes c = ap moment_of c.in-Commit.is

pub returns-in-Opening : goal.returns-in-Opening
returns-in-Opening c t = not_hindered (plan_of c.args.index.now) (all_lives c.args.index.now) (lives_of c.args.all.now) c.requires.order c.args.i (life_of c.args.x.now) (c.in_ok-is_single.ensures (search rules)) law.opening (ap moment_of c.in-Opening.is) (λ j y at_j apart h. h)

pub returns-in-Commit : goal.returns-in-Commit
returns-in-Commit c =
    IfOk-weaker c.line_is_free.result _ _ (λ free h yes. not_hindered (plan_of c.args.index.now) (all_lives c.args.index.now) (lives_of c.args.all.now) c.requires.order c.args.i (life_of c.args.x.now) (c.in_ok-is_single.ensures (search rules)) (law.commit c.in-Commit.g) (ap moment_of c.in-Commit.is) (h yes)) c.line_is_free.ensures

pub returns-in-Never : goal.returns-in-Never
returns-in-Never c t = not_hindered (plan_of c.args.index.now) (all_lives c.args.index.now) (lives_of c.args.all.now) c.requires.order c.args.i (life_of c.args.x.now) (c.in_ok-is_single.ensures (search rules)) law.never (ap moment_of c.in-Never.is) (λ j y at_j apart h. h)
