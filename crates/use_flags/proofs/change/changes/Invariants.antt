use Rattle.std.proofs.Common.{◌≡◌, ◌⊎◌, ◌-◌, ◌≤◌, length, take, drop, map}
use Rattle.std.specs.List.{AllByRecursion}
use Rattle.use_flags.specs.Changes.{change_of, IsChange}
use Rattle.use_flags.specs.Words.{words, BeginsWithBreak}
use Rattle.use_flags.proofs.change.changes.Given as goal

abbrev pub invariant-loop-word : goal.invariant-loop-word
invariant-loop-word l = record {
  within : l.from ≤ length l.bytes;
  apart : (l.from ≡ 0) ⊎ BeginsWithBreak (drop l.from l.bytes);
  found : l.changes.items ≡ map change_of (words (take l.from l.bytes));
  good : AllByRecursion IsChange (words (take l.from l.bytes));
}

abbrev pub decreases-loop-word : goal.decreases-loop-word
decreases-loop-word l = length l.bytes - l.from
