use Rattle.std.proofs.Common.{◌≡◌, ◌++◌, drop, map}
use Rattle.pkg_state.specs.Package.{line_of}
use Rattle.plan_law.specs.Plans.{removed_line}
use Rattle.plan_rules.specs.Changes.{change_of}
use Rattle.plan_rules.proofs.order.add_changes.Given as goal

abbrev pub invariant-loop-removal : goal.invariant-loop-removal
invariant-loop-removal l = map change_of l.changes.items ++ map (λ r. (removed_line r, l.g)) (drop l.removal-index l.removal-items) ≡ map change_of l.fn.changes.items ++ map (λ r. (removed_line r, l.g)) l.removal-items

abbrev pub invariant-loop-pkg : goal.invariant-loop-pkg
invariant-loop-pkg l = map change_of l.changes.items ++ map (λ p. (line_of p.facts, l.g)) (drop l.pkg-index l.pkg-items) ≡ (map change_of l.fn.changes.items ++ map (λ r. (removed_line r, l.g)) l.group.removals) ++ map (λ p. (line_of p.facts, l.g)) l.pkg-items
