use Rattle.std.proofs.Common.{◌≡◌, ◌≤◌, take}
use Rattle.std.specs.Prelude.{IsTrue}
use Rattle.merge_image.proofs.images.entries_of.Given as goal

abbrev pub invariant-loop-index : goal.invariant-loop-index
invariant-loop-index g l =
    (g.B.Builder.started l.builder ≡ l.count)
    × (g.B.Builder.number l.builder ≡ g.B.Builder.number l.fn.builder)
    × (g.B.Builder.told l.builder ≡ g.B.Builder.told l.fn.builder)
    × (g.B.Builder.image l.builder ≡ g.B.Builder.image l.fn.builder)
    × (IsTrue g.B.Builder.tells → l.entries.items ≡ take l.index (g.B.Builder.image l.fn.builder))
    × (g.B.Builder.faults l.fn.builder ≤ g.B.Builder.faults l.builder)
