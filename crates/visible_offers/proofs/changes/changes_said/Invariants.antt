use Rattle.std.proofs.Common.{◌≡◌, ◌++◌}
use Rattle.visible_offers.specs.Layers.{changes_by}
use Rattle.visible_offers.proofs.changes.changes_said.Given as goal

abbrev pub invariant-loop-flag : goal.invariant-loop-flag
invariant-loop-flag l = l.changes.items ++ changes_by l.words l.flag-iterator ≡ changes_by l.words l.known
