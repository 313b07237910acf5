-- The builders made so far are known by the numbers so far.
use Rattle.std.proofs.Common.{◌≡◌, length}
use Rattle.build_pool.specs.Numbered.{AreNumbered}
use Rattle.build_pool.proofs.numbered.numbered_builders.Given as goal

abbrev pub invariant-loop-id : goal.invariant-loop-id
invariant-loop-id g l = (length l.builders.items ≡ l.id) × AreNumbered g.B.Builder.number l.id l.builders.items
