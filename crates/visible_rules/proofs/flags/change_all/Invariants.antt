use Rattle.std.proofs.Common.{◌≡◌, List, drop, ℕ}
use Rattle.pms_names.specs.Flags.{has}
use Rattle.use_flags.specs.Changes.{has_after}
use Rattle.visible_rules.proofs.flags.change_all.Given as goal

abbrev pub invariant-loop-change : goal.invariant-loop-change
invariant-loop-change l = (flag : List ℕ) → has_after (drop l.change-index l.changes) flag (has l.flags flag) ≡ has_after l.changes flag (has l.fn.flags flag)
