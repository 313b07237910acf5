use Rattle.std.proofs.Common.{◌≤◌, ◌-◌, length, take}
use Rattle.pms_grammar.specs.Grammar.{AreDigits}
use Rattle.pms_version.proofs.reading.split_digits.Given as goal

abbrev pub invariant-loop-end : goal.invariant-loop-end
invariant-loop-end l = record { in_range : l.end ≤ length l.bytes; digits : AreDigits (take l.end l.bytes) }

abbrev pub decreases-loop-end : goal.decreases-loop-end
decreases-loop-end l = length l.initial.bytes - l.end
