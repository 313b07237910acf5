-- How the text of CONTENTS is cut: at newlines, and a line at its spaces and its arrow.
use Rattle.std.specs.Prelude.{◌≡◌, ◌==◌, ◌<◌, ℕ, false, List, ◌∷◌, ◌++◌, codes, length}
use Rattle.std.specs.List.{list_any}
use Rattle.vdb_contents.specs.Contents.{lines}

-- the first line of the text, and what is behind it
pub record IsFirstLine (text line behind : List ℕ) : Type 0 where
  pub first : lines text ≡ line ∷ lines behind
  pub shorter : length behind < length text

abbrev pub HasNoSpace : List ℕ → Type 0
HasNoSpace text = list_any (λ b. b == 32) text ≡ false

-- behind the first slash of a line for a file: the path, the digest's digits and the time
pub record IsFileParts (rest path digits time : List ℕ) : Type 0 where
  pub is : rest ≡ path ++ (32 ∷ (digits ++ (32 ∷ time)))
  pub digits-solid : HasNoSpace digits
  pub time-solid : HasNoSpace time

-- the rest has no such parts
abbrev pub NoFileParts : List ℕ → Type 0
NoFileParts rest = (path digits time : List ℕ) → ¬ IsFileParts rest path digits time

-- an arrow begins at no place of the text
abbrev pub LacksArrow : List ℕ → Type 0
LacksArrow text = (a r : List ℕ) → ¬ (text ≡ a ++ 32 ∷ 45 ∷ 62 ∷ r)

-- behind the first slash of a line for a link: the path, the target and the time
pub record IsLinkParts (rest path target time : List ℕ) : Type 0 where
  pub is : rest ≡ path ++ (codes " -> " ++ (target ++ (32 ∷ time)))
  pub first : LacksArrow path
  pub time-solid : HasNoSpace time

-- the rest has no such parts
abbrev pub NoLinkParts : List ℕ → Type 0
NoLinkParts rest = (path target time : List ℕ) → ¬ IsLinkParts rest path target time
