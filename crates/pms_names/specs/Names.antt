-- Which texts are names of a kind, and which fault of any other text comes first (PMS 3.1).
use Rattle.std.specs.Prelude.{◌≡◌, ℕ, ◌+◌, ◌<◌, ◌≤◌, true, false, List, length, drop, slice_index, ⊤}
use Rattle.pms_names.specs.declared.limits.TheConstants.{MOST_BYTES}
use Rattle.pms_names.specs.declared.kind.Kind.{Kind}
use Rattle.pms_names.specs.declared.kind.Kind.TheVariants.{Category, Package, Slot, Flag}
use Rattle.pms_names.specs.declared.fault.NameFault.{NameFault}
use Rattle.pms_names.specs.declared.fault.NameFault.TheVariants.{Empty, BadChar, BadStart, EndsLikeVersion, TooLong, Memory}
use Rattle.pms_names.specs.Bytes.{hyphen, may_contain, begins_badly}
use Rattle.pms_grammar.specs.Grammar.{IsVersionText}

-- names have some bytes, and not too many
pub record HasNameLength (bytes : List ℕ) : Type 0 where
  pub some : 0 < length bytes
  pub short : length bytes ≤ MOST_BYTES

-- each byte is one that may stand in a name of the kind
abbrev pub AreNameBytes : Kind → List ℕ → Type 0
AreNameBytes kind bytes = (k : ℕ) → k < length bytes → may_contain kind (slice_index bytes k) ≡ true

-- the text has the length, the beginning and the bytes of a name of the kind
pub record IsSpelled (kind : Kind) (bytes : List ℕ) : Type 0 where
  pub sized : HasNameLength bytes
  pub begins : begins_badly kind (slice_index bytes 0) ≡ false
  pub each : AreNameBytes kind bytes

-- some hyphen of the text has a version and nothing more behind it
abbrev pub EndsInVersion : List ℕ → Type 0
EndsInVersion bytes = (k : ℕ) × (k < length bytes) × (slice_index bytes k ≡ hyphen) ×
    IsVersionText (drop (k + 1) bytes)

-- the text ends as no name of the kind does
abbrev pub EndsBadly : Kind → List ℕ → Type 0
EndsBadly Category bytes = ⊥
EndsBadly Package bytes = EndsInVersion bytes
EndsBadly Slot bytes = ⊥
EndsBadly Flag bytes = ⊥

-- the text is a name of the kind
pub record IsName (kind : Kind) (bytes : List ℕ) : Type 0 where
  pub spelled : IsSpelled kind bytes
  pub ends : ¬ EndsBadly kind bytes

-- the first byte that no name of the kind contains stands at `at`
pub record IsFirstBadByte (kind : Kind) (bytes : List ℕ) (at : ℕ) : Type 0 where
  pub within : at < length bytes
  pub bad : may_contain kind (slice_index bytes at) ≡ false
  pub before : (k : ℕ) → k < at → may_contain kind (slice_index bytes k) ≡ true

-- the fault is the first that the text has; a name has none, but memory may run out on it
abbrev pub FirstFault : Kind → List ℕ → NameFault → Type 0
FirstFault kind bytes Empty = length bytes ≡ 0
FirstFault kind bytes TooLong = MOST_BYTES < length bytes
FirstFault kind bytes BadStart =
    HasNameLength bytes × (begins_badly kind (slice_index bytes 0) ≡ true)
FirstFault kind bytes (BadChar at) = HasNameLength bytes ×
    (begins_badly kind (slice_index bytes 0) ≡ false) × IsFirstBadByte kind bytes at
FirstFault kind bytes EndsLikeVersion = IsSpelled kind bytes × EndsBadly kind bytes
FirstFault kind bytes Memory = ⊤
