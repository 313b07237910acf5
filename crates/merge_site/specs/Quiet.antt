-- Events that ask nothing of the device.
use Rattle.std.specs.Prelude.{ℕ, Bool}
use Rattle.file_tree.specs.Disk.{Story}
use Rattle.merge_core.specs.Event.{Abandon, Acknowledge, Begin, Claim}
use Rattle.merge_core.specs.Roll.{Machine}
use Rattle.merge_core.specs.Site.{Performs}

-- while the tree stays as it is, a group begins, is claimed, acknowledged or given up, whatever was
-- answered
abbrev pub QuietPerforms : Type 0
QuietPerforms = (m : Machine) (g : ℕ) (ok : Bool) (s : Story) →
    Performs m (Begin g) ok s s × Performs m (Claim g) ok s s × Performs m (Acknowledge g) ok s s
    × Performs m (Abandon g) ok s s
