use Rattle.std.proofs.Common.{◌≡◌, None, drop, filter, map}
use Rattle.std.specs.Option.{option_map}
use Rattle.dep_atom.specs.Match.{value_matches}
use Rattle.dep_atom.specs.Values.{atom_value}
use Rattle.merge_groups.specs.Binds.{greatest}
use Rattle.merge_groups.proofs.binding.greatest.Given as goal

abbrev pub invariant-loop-package : goal.invariant-loop-package
invariant-loop-package l =
    greatest (option_map (λ p. p.now) l.best)
    (filter (λ p. value_matches (atom_value l.atom) p.facts l.asker) (map (λ p. p.now) (drop l.package-index l.packages)))
    ≡ greatest None
    (filter (λ p. value_matches (atom_value l.atom) p.facts l.asker) (map (λ p. p.now) l.packages))
