-- The paths of the journal. The files of a group stand in a folder of its own.
use Rattle.std.specs.Prelude.{◌<◌, ◌^◌, ℕ, List, ◌∷◌, ◌++◌, codes, ⊤}
use Rattle.hex.specs.Hex.{encode_lower}
use Rattle.file_tree.specs.Fixed.{jobs}
use Rattle.merge_record.specs.Spelling.{number_text}

-- a number as eight hex digits in lower case
unfoldable pub digits : ℕ → List ℕ
digits n = encode_lower (number_text 4 n)

-- the files of a group: what opens it, what it does, what its gate is made of, and the object of
-- each placement
pub data Part : Type 0 where
  Gate : Part
  Changes : Part
  Token : Part
  Stage : (index : ℕ) → Part

abbrev pub part_name : Part → List ℕ
part_name Gate = codes "gate"
part_name Changes = codes "record"
part_name Token = codes "token"
part_name (Stage index) = codes "stage/" ++ digits index

-- a stage has an index that eight digits tell
abbrev pub IsPart : Part → Type 0
IsPart (Stage index) = index < 2 ^ 32
IsPart part = ⊤

unfoldable pub folder : ℕ → List ℕ
folder group = jobs ++ 47 ∷ digits group

unfoldable pub named : ℕ → List ℕ → List ℕ
named group name = folder group ++ 47 ∷ name

abbrev pub part_path : ℕ → Part → List ℕ
part_path group part = named group (part_name part)

abbrev pub gate_path : ℕ → List ℕ
gate_path group = part_path group Gate

abbrev pub record_path : ℕ → List ℕ
record_path group = part_path group Changes

abbrev pub token_path : ℕ → List ℕ
token_path group = part_path group Token

abbrev pub stage_path : ℕ → ℕ → List ℕ
stage_path group index = part_path group (Stage index)
