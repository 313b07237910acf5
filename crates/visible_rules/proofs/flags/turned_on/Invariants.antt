use Rattle.std.proofs.Common.{◌≡◌, List, drop, fold, map, ℕ}
use Rattle.pms_names.specs.Flags.{has}
use Rattle.use_flags.specs.Changes.{has_after}
use Rattle.visible_rules.specs.Items.{is_turned_on}
use Rattle.visible_rules.proofs.flags.turned_on.Given as goal

abbrev pub invariant-loop-change : goal.invariant-loop-change
invariant-loop-change l = (flag : List ℕ) → fold (λ on cs. has_after cs flag on) (has l.flags flag) (map (λ c. c.now) (drop l.change-index l.changes)) ≡ is_turned_on (map (λ c. c.now) l.changes) flag
