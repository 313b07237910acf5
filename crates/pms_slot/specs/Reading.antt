-- What reading a value of SLOT gives.
use Rattle.std.specs.Prelude.{◌≡◌, ℕ, List, Option, Result, IfOk, MatchOption}
use Rattle.std.specs.declared.alloc.AllocError.{AllocError}
use Rattle.pms_names.specs.Names.{IsName}
use Rattle.pms_names.specs.declared.kind.Kind.TheVariants.{Slot}
use Rattle.pms_slot.specs.Slots.{IsSlotValue, Writes}
use Rattle.pms_slot.specs.declared.value.SlotValue.{SlotValue}
use Rattle.pms_slot.specs.declared.value.WrittenSlot.{WrittenSlot}

-- the text says no slot and subslot
abbrev pub SaysNone : List ℕ → Type 0
SaysNone text = (slot subslot : List ℕ) → ¬ IsSlotValue text slot subslot

-- unless memory runs out, what the text says is found, or it says nothing
abbrev pub ReadsSlots : List ℕ → Result (Option SlotValue) AllocError → Type 0
ReadsSlots text result =
    IfOk result (λ r. MatchOption r (SaysNone text) (λ v. IsSlotValue text v.slot v.subslot))

-- the text writes no slot
abbrev pub WritesNone : List ℕ → Type 0
WritesNone text = (slot : List ℕ) (written : Option (List ℕ)) → ¬ Writes text slot written

-- unless memory runs out, what the text writes is found, or it writes nothing
abbrev pub ReadsWritten : List ℕ → Result (Option WrittenSlot) AllocError → Type 0
ReadsWritten text result =
    IfOk result (λ r. MatchOption r (WritesNone text) (λ v. Writes text v.slot v.subslot))

-- the name is the bytes, and a slot's
abbrev pub IsSlotName : List ℕ → List ℕ → Type 0
IsSlotName bytes name = (name ≡ bytes) × IsName Slot bytes
