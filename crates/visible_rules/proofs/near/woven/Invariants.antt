use Rattle.std.proofs.Common.{◌≡◌, ◌++◌, drop}
use Rattle.visible_rules.specs.Near.{woven}
use Rattle.visible_rules.proofs.near.woven.Given as goal

abbrev pub invariant-loop-placed : goal.invariant-loop-placed
invariant-loop-placed l = l.all.items ++ woven l.plain l.from (drop l.placed-index l.named) ≡ woven l.plain 0 l.named
