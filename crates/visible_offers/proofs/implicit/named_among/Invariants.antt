use Rattle.std.proofs.Common.{◌≡◌, ◌++◌, drop, filter, map}
use Rattle.pms_names.specs.Flags.{has}
use Rattle.visible_offers.proofs.implicit.named_among.Given as goal

abbrev pub invariant-loop-variable : goal.invariant-loop-variable
invariant-loop-variable l = map (λ x. x.now) l.kept.items ++ filter (has (map (λ x. x.now) l.named)) (map (λ x. x.now) (drop l.variable-index l.variables)) ≡ filter (has (map (λ x. x.now) l.named)) (map (λ x. x.now) l.variables)
