-- What the code's list of packages to try says.
use Rattle.std.specs.Option.{option_map}
use Rattle.plan_law.specs.Lives.{Life}
use Rattle.plan_lives.specs.Lives.{life_of}
use Rattle.plan_check.specs.Asks.{AskedValue, what_asked}
use Rattle.plan_check.specs.declared.tried.Tried.{Tried}

-- a life, and what its package asks
abbrev pub tried_value : Tried → Life × AskedValue
tried_value t = (life_of t.life, what_asked (option_map (λ a. a.now) t.asked))
