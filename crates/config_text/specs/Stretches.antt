-- How far a stretch of bytes goes.
use Rattle.std.specs.Prelude.{◌≡◌, ◌<◌, ℕ, Bool, true, false, List, ◌++◌, length, slice_index}
use Rattle.std.specs.List.{AllByRecursion}
use Rattle.config_text.specs.Assignments.{is_in_line}
use Rattle.config_text.specs.Follow.{Stops}
use Rattle.config_text.specs.Values.{is_in_single, is_key_byte}
use Rattle.config_text.specs.declared.stretch.Stretch.{Stretch}
use Rattle.config_text.specs.declared.stretch.Stretch.TheVariants.{Key, Line, Single}

-- the byte belongs to the stretch
abbrev pub goes_on : Stretch → ℕ → Bool
goes_on Key b = is_key_byte b
goes_on Line b = is_in_line b
goes_on Single b = is_in_single b

abbrev pub GoesOn : Stretch → List ℕ → Type 0
GoesOn stretch bytes = (k : ℕ) → k < length bytes → goes_on stretch (slice_index bytes k) ≡ true

-- the stretch ends at the byte
pub record EndsAt (stretch : Stretch) (bytes : List ℕ) (at : ℕ) : Type 0 where
  pub within : at < length bytes
  pub other : goes_on stretch (slice_index bytes at) ≡ false
  pub before : (k : ℕ) → k < at → goes_on stretch (slice_index bytes k) ≡ true

-- the text is cut where the stretch ends
pub record IsCut (stretch : Stretch) (bytes front rest : List ℕ) : Type 0 where
  pub whole : bytes ≡ front ++ rest
  pub each : AllByRecursion (λ b. goes_on stretch b ≡ true) front
  pub ends : Stops (goes_on stretch) rest
