use Rattle.std.proofs.Common.{take}
use Rattle.visible_verdicts.specs.Places.{ArePlaces}
use Rattle.visible_verdicts.proofs.reading.places_of.Given as goal

abbrev pub invariant-loop-path : goal.invariant-loop-path
invariant-loop-path l = ArePlaces (take l.path-index l.paths) l.places.items
