use Rattle.std.proofs.Common.{drop, map}
use Rattle.dep_atom.specs.Values.{atom_value}
use Rattle.plan_lives.specs.Binding.{IsRightBind}
use Rattle.plan_lives.specs.Index.{plan_of, start_of}
use Rattle.plan_check.specs.Binding.{binds_rule}
use Rattle.plan_rules.proofs.Trying.{Hears}
use Rattle.plan_check.proofs.coming.judge_binds.Given as goal

abbrev pub invariant-loop-atom : goal.invariant-loop-atom
invariant-loop-atom l =
    Hears (binds_rule (IsRightBind (plan_of l.index) (start_of l.index) l.g l.pkg.facts.enabled) l.pkg.facts.id (map (λ atom. atom_value atom.now) (drop l.atom-index l.leaves)) l.rest)
    (binds_rule (IsRightBind (plan_of l.index) (start_of l.index) l.g l.pkg.facts.enabled) l.pkg.facts.id (map (λ atom. atom_value atom.now) l.leaves) l.binds)
