use Rattle.std.proofs.Common.{◌≡◌, take}
use Rattle.dep_atom.proofs.uses.clone_uses.Given as goal

abbrev pub invariant-loop-item : goal.invariant-loop-item
invariant-loop-item l = l.copy.items ≡ take l.item-index l.uses
