use Rattle.std.proofs.Common.{◌≡◌, ◌||◌, ℕ, List, filter}
use Rattle.pms_names.specs.Flags.{has}
use Rattle.merge_groups.proofs.flags.known_of.Given as goal

abbrev pub invariant-loop-flag : goal.invariant-loop-flag
invariant-loop-flag l = (q : List ℕ) → (has l.kept q || has (filter (has l.known) l.flag-iterator) q) ≡ has (filter (has l.known) l.flags) q
