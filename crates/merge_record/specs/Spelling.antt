-- The one spelling of each record, and which records have one.
use Rattle.std.specs.Prelude.{◌≡◌, ◌⊎◌, ◌<◌, ◌≤◌, ◌+◌, ◌^◌, ◌&&◌, ℕ, true, List, [], ◌∷◌, ◌++◌, length, Any}
use Rattle.std.specs.List.{AllByRecursion, flat_map}
use Rattle.byteorder.specs.Endian.{big_bytes}
use Rattle.file_tree.specs.Paths.{IsPathText}
use Rattle.file_tree.specs.declared.objects.Kind.{Kind}
use Rattle.file_tree.specs.declared.objects.Kind.TheVariants.{Plain, Exec, Link}
use Rattle.merge_record.specs.RecordValue.{RecordValue}
use Rattle.merge_record.specs.declared.record.Placement.{Placement}
use Rattle.merge_record.specs.declared.limits.TheConstants.{MOST_FILE_BYTES, MOST_GROUP_PATHS, MOST_RECORD_BYTES}

-- the k lowest bytes of a number, the highest of them first
unfoldable pub number_text : ℕ → ℕ → List ℕ
number_text k n = big_bytes k n

abbrev pub byte_of : Kind → ℕ
byte_of Plain = 0
byte_of Exec = 1
byte_of Link = 2

-- `EMJR` and the number of the format
abbrev pub lead : List ℕ
lead = 69 ∷ 77 ∷ 74 ∷ 82 ∷ 1 ∷ []

-- two bytes of length, and the path
unfoldable pub path_text : List ℕ → List ℕ
path_text path = number_text 2 (length path) ++ path

-- the kind, eight bytes of length, the digest and the path
unfoldable pub placement_text : Placement → List ℕ
placement_text p = byte_of p.kind ∷ (number_text 8 p.length ++ (p.md5 ++ path_text p.path))

-- a list with its count in four bytes
abbrev pub counted : {A : Type 0} → (A → List ℕ) → List A → List ℕ
counted text xs = number_text 4 (length xs) ++ flat_map text xs

-- the fixed bytes, the group, the removals and the placements
abbrev pub spelling : RecordValue → List ℕ
spelling r = lead ++
    (number_text 4 r.group ++ (counted path_text r.removals ++ counted placement_text r.placements))

pub record IsPlacement (p : Placement) : Type 0 where
  pub path : IsPathText p.path
  pub size : p.length ≤ MOST_FILE_BYTES
  pub digest : length p.md5 ≡ 16

-- what has a spelling
pub record IsSpellable (r : RecordValue) : Type 0 where
  pub group : r.group < 2 ^ 32
  pub removals : AllByRecursion IsPathText r.removals
  pub placements : AllByRecursion IsPlacement r.placements
  pub paths : length r.removals + length r.placements ≤ MOST_GROUP_PATHS
  pub bytes : length (spelling r) ≤ MOST_RECORD_BYTES

-- too many bytes, too many paths, or a file that is too long
abbrev pub PassesLimit : RecordValue → Type 0
PassesLimit r =
    (MOST_RECORD_BYTES < length (spelling r)) ⊎
    ((MOST_GROUP_PATHS < length r.removals + length r.placements) ⊎
    Any (λ p. MOST_FILE_BYTES < p.length) r.placements)
