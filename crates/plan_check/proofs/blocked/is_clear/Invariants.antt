use Rattle.std.proofs.Common.{drop, map}
use Rattle.dep_atom.specs.Values.{atom_value}
use Rattle.plan_lives.specs.Index.{all_lives, plan_of}
use Rattle.plan_check.specs.Kept.{AreClear}
use Rattle.plan_check.proofs.blocked.is_clear.Given as goal

abbrev pub invariant-loop-atom : goal.invariant-loop-atom
invariant-loop-atom l = AreClear (plan_of l.index) (all_lives l.index) l.keeping (map (λ atom. atom_value atom.now) (drop l.atom-index l.blocks)) → AreClear (plan_of l.index) (all_lives l.index) l.keeping (map (λ atom. atom_value atom.now) l.blocks)
