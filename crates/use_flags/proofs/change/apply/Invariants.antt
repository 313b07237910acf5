use Rattle.std.proofs.Common.{◌≡◌, ℕ, List, take}
use Rattle.pms_names.specs.Flags.{has}
use Rattle.use_flags.specs.Changes.{has_after}
use Rattle.use_flags.proofs.change.apply.Given as goal

abbrev pub invariant-loop-change : goal.invariant-loop-change
invariant-loop-change l = (q : List ℕ) → has l.changed q ≡ has_after (take l.change-index l.changes) q (has l.initial.flags q)
