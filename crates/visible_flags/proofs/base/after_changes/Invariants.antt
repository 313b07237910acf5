use Rattle.std.proofs.Common.{◌≡◌, drop}
use Rattle.use_flags.specs.Changes.{has_after}
use Rattle.visible_flags.proofs.base.after_changes.Given as goal

abbrev pub invariant-loop-change : goal.invariant-loop-change
invariant-loop-change l = has_after (drop l.change-index l.changes) l.flag l.on ≡ has_after l.changes l.flag l.fn.on
