use Rattle.std.proofs.Common.{rules}
use Rattle.plan_lives.specs.Lives.{life_of, lives_of}
use Rattle.std.proofs.lemmas.Result.{IfOk-weaker}
use Rattle.plan_rules.proofs.Hindered.{alone}
use Rattle.plan_rules.proofs.room.is_alone.Goals as goal

pub returns : goal.returns
returns c =
    IfOk-weaker c.is_apart_from_last.result _ _ (λ apart h yes. alone (lives_of c.args.all.now) c.requires.order c.args.g c.args.i (life_of c.args.x.now) c.requires.at_place c.requires.comes (c.in_ok-is_apart_from_next.ensures (search rules)) (h yes)) c.is_apart_from_last.ensures
