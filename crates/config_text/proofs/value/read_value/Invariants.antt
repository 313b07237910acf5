use Rattle.config_text.specs.Known.{value_of}
use Rattle.config_text.specs.Reading.{GivesRuns}
use Rattle.std.proofs.Common.{length}
use Rattle.config_text.proofs.value.read_value.Given as goal

abbrev pub invariant-loop-value : goal.invariant-loop-value
invariant-loop-value l = GivesRuns (value_of l.known.values) l.text l.rest l.initial.value.items l.value.items

abbrev pub decreases-loop-value : goal.decreases-loop-value
decreases-loop-value l = length l.rest
