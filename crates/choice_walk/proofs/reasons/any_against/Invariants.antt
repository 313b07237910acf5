use Rattle.std.proofs.Common.{◌≡◌, drop, true}
use Rattle.std.specs.List.{list_any}
use Rattle.choice_law.specs.Universe.{conflicts}
use Rattle.choice_walk.proofs.reasons.any_against.Given as goal

abbrev pub invariant-loop-variant : goal.invariant-loop-variant
invariant-loop-variant l = list_any (λ q. conflicts true q l.gone) (drop l.variant-index l.variants) ≡ list_any (λ q. conflicts true q l.gone) l.variants
