-- What stands, and the lines that are left, come to what all lines come to.
use Rattle.std.proofs.Common.{◌≡◌}
use Rattle.std.specs.Vec.Iter.{into_iter_items}
use Rattle.profile_lines.specs.Stacks.{with_entries}
use Rattle.profile_lines.proofs.stack.count_entries.Given as goal

abbrev pub invariant-loop-line : goal.invariant-loop-line
invariant-loop-line l = with_entries l.form l.standing.items (into_iter_items l.line-iterator) ≡ with_entries l.form l.initial.standing.items l.fn.lines.items
