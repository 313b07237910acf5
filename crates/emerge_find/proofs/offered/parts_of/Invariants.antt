-- What was pushed, and the candidates that are left, come to all candidates.
use Rattle.std.proofs.Common.{◌≡◌, ◌++◌, map}
use Rattle.std.specs.Vec.Iter.{into_iter_items}
use Rattle.emerge_find.specs.Choices.{bare_of, tried_of}
use Rattle.emerge_find.proofs.offered.parts_of.Given as goal

abbrev pub invariant-loop-candidate : goal.invariant-loop-candidate
invariant-loop-candidate l =
    (l.offered.items ++ map bare_of (into_iter_items l.candidate-iterator) ≡ map bare_of l.fn.candidates.items)
    × (l.tried.items ++ map tried_of (into_iter_items l.candidate-iterator) ≡ map tried_of l.fn.candidates.items)
