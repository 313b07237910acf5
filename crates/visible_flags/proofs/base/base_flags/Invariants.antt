use Rattle.std.proofs.Common.{◌≡◌, ◌&&◌, ◌||◌, ℕ, List}
use Rattle.pms_names.specs.Flags.{has}
use Rattle.visible_flags.specs.Settings.{is_base, is_set}
use Rattle.visible_flags.proofs.base.base_flags.Given as goal

abbrev pub invariant-loop-flag : goal.invariant-loop-flag
invariant-loop-flag l = (q : List ℕ) → (has l.flags q || (has l.flag-iterator q && is_set l.rules l.on q)) ≡ is_base l.rules l.known l.on q
