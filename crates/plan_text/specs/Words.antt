-- The words of the lines of a plan's text.
use Rattle.std.specs.Prelude.{◌≡◌, ◌&&◌, ℕ, Bool, true, List, [], ◌∷◌, ◌++◌}
use Rattle.std.specs.List.{AllByRecursion}
use Rattle.std.specs.Ordering.{is_lt}
use Rattle.pms_names.specs.Flags.{byte_order}
use Rattle.pms_names.specs.Names.{IsName}
use Rattle.pms_names.specs.declared.kind.Kind.TheVariants.{Flag, Slot}
use Rattle.build_pool.specs.declared.orders.Order.{Order}
use Rattle.dep_atom.specs.Ids.{IsId, id_text}
use Rattle.dep_atom.specs.declared.slot.Bind.{Bind}
use Rattle.plan_text.specs.declared.plan.Removal.{Removal}

-- the one text stands before the other in byte order
abbrev pub is_before : List ℕ → List ℕ → Bool
is_before text other = is_lt (byte_order text other)

-- each text stands before the next one in byte order
abbrev pub rise : List (List ℕ) → Bool
rise [] = true
rise (t ∷ []) = true
rise (t ∷ (u ∷ ts)) = is_before t u && rise (u ∷ ts)

-- `slot/subslot`
abbrev pub slots_word : List ℕ → List ℕ → List ℕ
slots_word slot subslot = slot ++ (47 ∷ subslot)

-- `category/package-version:slot`
abbrev pub removal_word : Removal → List ℕ
removal_word r = id_text r.id ++ (58 ∷ r.slot)

-- `category/package-version:slot/subslot`
abbrev pub addition_word : Order → List ℕ
addition_word a = id_text a.id ++ (58 ∷ slots_word a.slot a.subslot)

abbrev pub bind_word : Bind → List ℕ
bind_word b = slots_word b.slot b.subslot

-- what it is made of is in form
pub record IsRemoval (r : Removal) : Type 0 where
  pub id : IsId r.id
  pub slot : IsName Slot r.slot

pub record IsBind (b : Bind) : Type 0 where
  pub slot : IsName Slot b.slot
  pub subslot : IsName Slot b.subslot

-- the flags are some that rise in byte order
pub record AreFlags (flags : List (List ℕ)) : Type 0 where
  pub each : AllByRecursion (IsName Flag) flags
  pub rise : rise flags ≡ true

-- what its line says is in form
pub record IsEntry (a : Order) : Type 0 where
  pub id : IsId a.id
  pub slot : IsName Slot a.slot
  pub subslot : IsName Slot a.subslot
  pub enabled : AreFlags a.enabled

-- the addition has no binds, which have lines of their own
abbrev pub IsBare : Order → Type 0
IsBare a = IsEntry a × (a.binds ≡ [])

-- the words of its line behind the head
abbrev pub addition_words : Order → List (List ℕ)
addition_words a = addition_word a ∷ a.enabled
