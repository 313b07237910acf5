use Rattle.std.proofs.Common.{◌≡◌, map}
use Rattle.pms_names.specs.Flags.{has}
use Rattle.required_use.specs.View.{trees}
use Rattle.visible_flags.specs.Variants.{lists_below, settings}
use Rattle.visible_flags.proofs.choosing.variants.Given as goal

abbrev pub invariant-loop-changed : goal.invariant-loop-changed
invariant-loop-changed l = map has l.found.items ≡ settings (trees l.required) (has l.base) (lists_below l.changed l.free.items)
