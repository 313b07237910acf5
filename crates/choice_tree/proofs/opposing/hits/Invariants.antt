use Rattle.std.proofs.Common.{◌≡◌, drop, map}
use Rattle.dep_atom.specs.Values.{atom_value}
use Rattle.choice_tree.specs.Blocks.{hit}
use Rattle.choice_tree.proofs.opposing.hits.Given as goal

abbrev pub invariant-loop-atom : goal.invariant-loop-atom
invariant-loop-atom l = hit (map (λ a. atom_value a.now) (drop l.atom-index l.atoms)) l.one l.other ≡ hit (map (λ a. atom_value a.now) l.atoms) l.one l.other
