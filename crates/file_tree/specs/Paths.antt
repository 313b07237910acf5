-- The texts that are paths, and the first fault of a text that is none.
use Rattle.std.specs.Prelude.{◌≡◌, ◌==◌, ◌<◌, ◌≤◌, ◌+◌, ◌-◌, ◌&&◌, ◌||◌, ℕ, zero, suc, Bool, true, false, not, nat_lt, nat_le, nat_eq, List, [], ◌∷◌, length, drop, slice_index, take_while, bytes_eq, ⊤}
use Rattle.std.specs.List.{starts_with}
use Rattle.std.specs.Str.{is_utf8}
use Rattle.file_tree.specs.declared.limits.TheConstants.{MOST_PATH_BYTES}
use Rattle.file_tree.specs.declared.fault.PathFault.{PathFault}
use Rattle.file_tree.specs.declared.fault.PathFault.TheVariants.{Empty, BadChar, BadPart, TooLong, Memory}

-- the bytes before the first slash
abbrev pub first_part : List ℕ → List ℕ
first_part bytes = take_while (λ b. not (b == 47)) bytes

-- a part that no path has: an empty one, `.` and `..`
abbrev pub is_bad_part : List ℕ → Bool
is_bad_part part = bytes_eq part [] || (bytes_eq part (46 ∷ []) || bytes_eq part (46 ∷ 46 ∷ []))

-- a part begins at the front of the text and behind each slash
abbrev pub part_begins : List ℕ → ℕ → Bool
part_begins bytes at = (at == 0) || (slice_index bytes (at - 1) == 47)

-- a part that no path has begins here
abbrev pub bad_part_at : List ℕ → ℕ → Bool
bad_part_at bytes at = part_begins bytes at && is_bad_part (first_part (drop at bytes))

-- a newline, a NUL byte, or a space, a hyphen and a greater-than sign, with which a link line of
-- CONTENTS is split
abbrev pub begins_badly : List ℕ → Bool
begins_badly bytes = starts_with nat_eq bytes (10 ∷ []) ||
    (starts_with nat_eq bytes (0 ∷ []) || starts_with nat_eq bytes (32 ∷ 45 ∷ 62 ∷ []))

abbrev pub bad_char_at : List ℕ → ℕ → Bool
bad_char_at bytes at = begins_badly (drop at bytes)

abbrev pub bad_at : List ℕ → ℕ → Bool
bad_at bytes at = bad_part_at bytes at || bad_char_at bytes at

-- the test passes at no number below n
abbrev pub none_below : (ℕ → Bool) → ℕ → Bool
none_below test zero = true
none_below test (suc n) = not (test n) && none_below test n

-- a path: some bytes and not too many, and at no place of it a bad part or a bad byte
unfoldable pub is_path : List ℕ → Bool
is_path bytes = nat_lt 0 (length bytes) &&
    (nat_le (length bytes) MOST_PATH_BYTES && none_below (bad_at bytes) (length bytes + 1))

-- a text that is a path
abbrev pub IsPathText : List ℕ → Type 0
IsPathText text = is_utf8 text && is_path text ≡ true

-- the second path is strictly below the first: it goes on with a slash behind the whole of it
abbrev pub is_below : List ℕ → List ℕ → Bool
is_below top path = starts_with nat_eq path top && (slice_index path (length top) == 47)

-- the fault of this place
abbrev pub FaultAt : List ℕ → ℕ → PathFault → Type 0
FaultAt bytes at (BadChar place) = (place ≡ at) × (bad_char_at bytes at ≡ true)
FaultAt bytes at (BadPart place) = (place ≡ at) × (bad_part_at bytes at ≡ true)
FaultAt bytes at Empty = ⊥
FaultAt bytes at TooLong = ⊥
FaultAt bytes at Memory = ⊥

-- nothing is bad before this place of a text of a good length
pub record IsGoodBefore (bytes : List ℕ) (at : ℕ) : Type 0 where
  pub some : 0 < length bytes
  pub short : length bytes ≤ MOST_PATH_BYTES
  pub in_range : at ≤ length bytes
  pub before : (k : ℕ) → k < at → bad_at bytes k ≡ false

-- the first fault of a text, in the order: empty, too long, the first bad place
abbrev pub FirstFault : List ℕ → PathFault → Type 0
FirstFault bytes Empty = length bytes ≡ 0
FirstFault bytes TooLong = MOST_PATH_BYTES < length bytes
FirstFault bytes (BadChar at) = IsGoodBefore bytes at × (bad_char_at bytes at ≡ true)
FirstFault bytes (BadPart at) = IsGoodBefore bytes at × (bad_part_at bytes at ≡ true)
FirstFault bytes Memory = ⊤
