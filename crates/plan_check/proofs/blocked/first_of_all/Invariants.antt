use Rattle.std.proofs.Common.{drop}
use Rattle.std.specs.Option.{option_map}
use Rattle.plan_lives.specs.Index.{plan_of}
use Rattle.plan_lives.specs.Lives.{lives_of}
use Rattle.plan_check.specs.Kept.{IsFirstKept}
use Rattle.plan_rules.proofs.Trying.{Hears}
use Rattle.plan_check.proofs.blocked.first_of_all.Given as goal

abbrev pub invariant-loop-y : goal.invariant-loop-y
invariant-loop-y l = Hears (IsFirstKept (plan_of l.index) (lives_of (drop l.y-index l.all)) l.keeping (option_map (λ k. k.now) l.other)) (IsFirstKept (plan_of l.index) (lives_of l.all) l.keeping (option_map (λ k. k.now) l.other))
