use Rattle.std.proofs.Common.{map, take}
use Rattle.dep_group.specs.Views.{spot}
use Rattle.dep_group.specs.Words.{texts}
use Rattle.vdb_values.specs.Values.{HasFlags}
use Rattle.vdb_values.proofs.Sets.{IsReadOf}
use Rattle.vdb_values.proofs.flags.read_each.Given as goal

abbrev pub invariant-loop-word : goal.invariant-loop-word
invariant-loop-word l = IsReadOf l.marked (texts (map spot (take l.word-index l.words))) l.flags × HasFlags l.marked (map spot (take l.word-index l.words)) l.flags
