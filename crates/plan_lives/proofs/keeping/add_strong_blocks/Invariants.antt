use Rattle.std.proofs.Common.{◌≡◌, ◌++◌, drop, filter, map}
use Rattle.dep_atom.specs.Values.{atom_value}
use Rattle.plan_law.specs.Sound.{is_strong_block}
use Rattle.plan_lives.proofs.keeping.add_strong_blocks.Given as goal

abbrev pub invariant-loop-atom : goal.invariant-loop-atom
invariant-loop-atom l = map (λ atom. atom_value atom.now) l.blocks.items ++ filter (λ a. is_strong_block a.block) (map (λ atom. atom_value atom.now) (drop l.atom-index l.atom-items)) ≡ map (λ atom. atom_value atom.now) l.fn.blocks.items ++ filter (λ a. is_strong_block a.block) (map (λ atom. atom_value atom.now) l.atom-items)
