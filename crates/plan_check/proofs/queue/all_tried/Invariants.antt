use Rattle.std.proofs.Common.{◌≡◌, ◌++◌, drop, map}
use Rattle.plan_lives.specs.Lives.{lives_of}
use Rattle.plan_check.specs.Asks.{all_asked, asking}
use Rattle.plan_check.specs.Turns.{tried_value}
use Rattle.plan_check.proofs.queue.all_tried.Given as goal

abbrev pub invariant-loop-life : goal.invariant-loop-life
invariant-loop-life l = map tried_value l.all.items ++ asking (lives_of (drop l.life-index l.life-items)) (all_asked (drop l.taken l.asks)) ≡ asking (lives_of l.life-items) (all_asked l.asks)
