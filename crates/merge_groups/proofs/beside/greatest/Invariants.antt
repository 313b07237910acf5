use Rattle.std.specs.Option.{option_map}
use Rattle.plan_lives.proofs.Greatest.{Leads}
use Rattle.merge_groups.proofs.beside.greatest.Given as goal

abbrev pub invariant-loop-y : goal.invariant-loop-y
invariant-loop-y l = Leads l.reach.groups.now l.g l.fits l.y-index (option_map (λ p. p.now) l.best)
