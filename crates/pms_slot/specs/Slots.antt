-- The value of SLOT (PMS 7.2): a slot, and perhaps a slash and a subslot behind it.
use Rattle.std.specs.Prelude.{◌≡◌, ◌≢◌, ℕ, ◌<◌, List, ◌∷◌, ◌++◌, length, slice_index, ⊤}
use Rattle.std.specs.Prelude.{Option, Some, None, bytes_eq, if◌then◌else◌, unwrap_or}
use Rattle.pms_names.specs.Names.{IsName}
use Rattle.pms_names.specs.declared.kind.Kind.TheVariants.{Slot}

-- the slot, and a slash with the subslot where one is written
abbrev pub slot_value : List ℕ → Option (List ℕ) → List ℕ
slot_value slot None = slot
slot_value slot (Some written) = slot ++ (47 ∷ written)

-- a subslot that is written is a name, as slots are
abbrev pub IsWritten : Option (List ℕ) → Type 0
IsWritten None = ⊤
IsWritten (Some written) = IsName Slot written

-- the text writes this slot, and this subslot or none
pub record Writes (text slot : List ℕ) (written : Option (List ℕ)) : Type 0 where
  pub named : IsName Slot slot
  pub form : IsWritten written
  pub spelled : text ≡ slot_value slot written

-- the text says this slot and this subslot; a slot without a subslot has one equal to itself
pub record IsSlotValue (text slot subslot : List ℕ) : Type 0 where
  pub written : Option (List ℕ)
  pub named : IsName Slot slot
  pub form : IsWritten written
  pub spelled : text ≡ slot_value slot written
  pub means : subslot ≡ unwrap_or written slot

-- how they are written: with the subslot exactly where it differs from the slot
abbrev pub slot_text : List ℕ → List ℕ → List ℕ
slot_text slot subslot = if bytes_eq slot subslot then slot else slot ++ (47 ∷ subslot)

-- no byte of the text is a slash
abbrev pub LacksSlash : List ℕ → Type 0
LacksSlash text = (k : ℕ) → k < length text → slice_index text k ≢ 47

-- the first slash of the text stands at `at`
pub record IsFirstSlash (text : List ℕ) (at : ℕ) : Type 0 where
  pub within : at < length text
  pub slash : slice_index text at ≡ 47
  pub before : (k : ℕ) → k < at → slice_index text k ≢ 47
