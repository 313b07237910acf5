use Rattle.std.proofs.Common.{map, take}
use Rattle.std.specs.List.{AllByRecursion}
use Rattle.merge_groups.specs.Named.{IsNamed}
use Rattle.merge_groups.proofs.named.packages_are_named.Given as goal

abbrev pub invariant-loop-package : goal.invariant-loop-package
invariant-loop-package l = AllByRecursion IsNamed (map (λ p. p.now) (take l.package-index l.packages))
