use Rattle.std.proofs.Common.{◌≡◌, map, take}
use Rattle.std.specs.List.{AllByRecursion}
use Rattle.merge_groups.specs.Lined.{IsLined}
use Rattle.merge_groups.proofs.order.all_lined.Given as goal

abbrev pub invariant-loop-pkg : goal.invariant-loop-pkg
invariant-loop-pkg l =
    AllByRecursion (IsLined l.change) l.all.items
    × (map (λ l. l.pkg.now) l.all.items ≡ map (λ p. p.now) (take l.pkg-index l.pkgs))
