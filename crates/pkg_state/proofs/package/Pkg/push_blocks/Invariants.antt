use Rattle.std.proofs.Common.{◌≡◌, ◌++◌, drop, filter, map}
use Rattle.dep_atom.specs.Values.{atom_value}
use Rattle.dep_tree.specs.Grammar.{is_block}
use Rattle.pkg_state.specs.Consistent.{blocks_in}
use Rattle.pkg_state.proofs.package.Pkg.push_blocks.Given as goal

abbrev pub invariant-loop-atom : goal.invariant-loop-atom
invariant-loop-atom l = map (λ a. atom_value a.now) l.blocks.items ++ filter is_block (map (λ a. atom_value a.now) (drop l.atom-index l.atom-items)) ≡ map (λ a. atom_value a.now) l.fn.blocks.items ++ blocks_in l.fn.class l.fn.self
