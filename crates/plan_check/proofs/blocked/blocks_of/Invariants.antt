use Rattle.std.proofs.Common.{◌≡◌, ◌++◌, drop, filter, map}
use Rattle.dep_atom.specs.Values.{atom_value}
use Rattle.plan_check.specs.PackageRules.{is_of_kind}
use Rattle.plan_check.proofs.blocked.blocks_of.Given as goal

abbrev pub invariant-loop-atom : goal.invariant-loop-atom
invariant-loop-atom l = map (λ atom. atom_value atom.now) l.blocks.items ++ filter (is_of_kind l.strong) (map (λ atom. atom_value atom.now) (drop l.atom-index l.atom-items)) ≡ filter (is_of_kind l.strong) (map (λ atom. atom_value atom.now) l.atom-items)
