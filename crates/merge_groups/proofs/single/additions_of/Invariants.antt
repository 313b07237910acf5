use Rattle.std.proofs.Common.{◌≡◌, map, take}
use Rattle.std.specs.List.{AllByRecursion}
use Rattle.plan_text.specs.Texts.{IsAddition}
use Rattle.merge_groups.specs.Single.{addition_of}
use Rattle.merge_groups.proofs.single.additions_of.Given as goal

abbrev pub invariant-loop-one : goal.invariant-loop-one
invariant-loop-one l =
    (l.additions.items ≡ map (addition_of (map (λ p. p.now) l.beside.packages.now)) (map (λ l. l.pkg.now) (take l.one-index l.lined)))
    × AllByRecursion IsAddition l.additions.items
