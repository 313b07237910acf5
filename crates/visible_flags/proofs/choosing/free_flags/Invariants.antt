use Rattle.std.proofs.Common.{◌≡◌, ◌++◌, filter}
use Rattle.visible_flags.specs.Variants.{is_free}
use Rattle.visible_flags.proofs.choosing.free_flags.Given as goal

abbrev pub invariant-loop-flag : goal.invariant-loop-flag
invariant-loop-flag l = l.free.items ++ filter (is_free l.rules) l.flag-iterator ≡ filter (is_free l.rules) l.known
