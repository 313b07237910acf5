use Rattle.std.proofs.Common.{map}
use Rattle.dep_group.specs.Views.{spot}
use Rattle.dep_group.proofs.WordLemmas.{HasRead}
use Rattle.dep_group.proofs.word.words.Given as goal

abbrev pub invariant-loop-i : goal.invariant-loop-i
invariant-loop-i l = HasRead l.text (map spot l.found.items) l.start l.i
