-- Three groups of a site.
use Rattle.std.specs.Prelude.{◌≡◌, ◌≤◌, ℕ, length}
use Rattle.merge_core.specs.Core.{standing_in}
use Rattle.merge_core.specs.CoreValue.{CoreValue}
use Rattle.merge_core.specs.Phase.{Open}
use Rattle.merge_core.specs.Roll.{Standing}

-- an open group has changed no more paths than its record has
abbrev pub IsWithin : Standing → Type 0
IsWithin x = x.phase ≡ Open → (x.placed ≤ length x.placements) × (x.removed ≤ length x.removals)

-- there are three groups, and each is within its record
pub record AreThree (k : CoreValue) : Type 0 where
  pub three : length k.standings ≡ 3
  pub within : (g : ℕ) → IsWithin (standing_in k.standings g)
