use Rattle.std.proofs.Common.{◌≡◌, ◌++◌, drop, map}
use Rattle.std.specs.List.{flat_map}
use Rattle.visible_offers.specs.Words.{flags_of, implicit_texts}
use Rattle.visible_offers.proofs.implicit.implicit_texts.Given as goal

abbrev pub invariant-loop-variable : goal.invariant-loop-variable
invariant-loop-variable l = l.texts.items ++ flat_map (flags_of l.files) (map (λ x. x.now) (drop l.variable-index l.variable-items)) ≡ implicit_texts l.files
