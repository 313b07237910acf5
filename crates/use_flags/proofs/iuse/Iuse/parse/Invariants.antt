use Rattle.std.proofs.Common.{◌≡◌, ◌⊎◌, ℕ, ◌-◌, ◌≤◌, List, length, take, drop}
use Rattle.std.specs.List.{AllByRecursion}
use Rattle.pms_names.specs.Flags.{has}
use Rattle.use_flags.specs.Items.{IsItem, names_flag, last_is_on}
use Rattle.use_flags.specs.Words.{words, BeginsWithBreak}
use Rattle.use_flags.proofs.iuse.Iuse.parse.Given as goal

abbrev pub invariant-loop-word : goal.invariant-loop-word
invariant-loop-word l = record {
  within : l.from ≤ length l.bytes;
  apart : (l.from ≡ 0) ⊎ BeginsWithBreak (drop l.from l.bytes);
  flags : (q : List ℕ) → has l.iuse.flags q ≡ names_flag (words (take l.from l.bytes)) q;
  on : (q : List ℕ) → has l.iuse.on q ≡ last_is_on (words (take l.from l.bytes)) q;
  items : AllByRecursion IsItem (words (take l.from l.bytes));
}

abbrev pub decreases-loop-word : goal.decreases-loop-word
decreases-loop-word l = length l.bytes - l.from
