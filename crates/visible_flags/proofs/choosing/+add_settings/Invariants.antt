use Rattle.std.proofs.Common.{◌≡◌, ◌++◌, map, length}
use Rattle.pms_names.specs.Flags.{has}
use Rattle.required_use.specs.View.{trees}
use Rattle.visible_flags.specs.Variants.{lists_of, settings}
use Rattle.visible_flags.proofs.choosing.+add_settings.Given as goal

abbrev pub decreases-add_settings : goal.decreases-add_settings
decreases-add_settings l = l.flips

abbrev pub invariant-loop-flag : goal.invariant-loop-flag
invariant-loop-flag l =
    map has l.found.items ++ settings (trees l.required) (has l.flags) (lists_of l.flips l.rest)
    ≡ map has l.fn.found.items ++ settings (trees l.required) (has l.flags) (lists_of l.flips l.free)

abbrev pub decreases-loop-flag : goal.decreases-loop-flag
decreases-loop-flag l = length l.rest
