use Rattle.std.proofs.Common.{◌≡◌, map, take}
use Rattle.plan_lives.specs.Lives.{lives_of}
use Rattle.plan_check.specs.PackageRules.{lives_in}
use Rattle.plan_check.specs.Turns.{tried_value}
use Rattle.plan_check.proofs.queue.lives_in.Given as goal

abbrev pub invariant-loop-one : goal.invariant-loop-one
invariant-loop-one l = lives_of l.lives.items ≡ lives_in (map tried_value (take l.one-index l.tried))
