use Rattle.config_text.specs.Assignments.{part_value}
use Rattle.config_text.specs.Known.{value_of}
use Rattle.config_text.specs.Reading.{GivesAll}
use Rattle.config_text.specs.Values.{IsPart, spell_part}
use Rattle.std.proofs.Common.{length, true}
use Rattle.config_text.proofs.value.read_double.Given as goal

abbrev pub invariant-loop-rest : goal.invariant-loop-rest
invariant-loop-rest l = GivesAll (IsPart true) spell_part (part_value (value_of l.known.values)) l.text l.rest l.initial.value.items l.value.items

abbrev pub decreases-loop-rest : goal.decreases-loop-rest
decreases-loop-rest l = length l.rest
