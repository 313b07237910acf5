use Rattle.std.proofs.Common.{◌≡◌, map, take}
use Rattle.plan_rules.proofs.presence.with_lines.Given as goal

abbrev pub invariant-loop-removal : goal.invariant-loop-removal
invariant-loop-removal l = map (λ one. one.removal.now) l.all.items ≡ take l.removal-index l.removals
