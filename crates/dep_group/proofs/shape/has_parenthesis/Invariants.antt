use Rattle.std.proofs.Common.{◌≡◌, false, drop}
use Rattle.dep_group.specs.Shapes.{has_parenthesis}
use Rattle.dep_group.proofs.shape.has_parenthesis.Given as goal

abbrev pub invariant-loop-b : goal.invariant-loop-b
invariant-loop-b l = has_parenthesis false l.bytes ≡ has_parenthesis l.inside (drop l.b-index l.bytes)
