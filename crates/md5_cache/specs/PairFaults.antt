-- Why a text is no list of pairs.
use Rattle.std.specs.Prelude.{◌≡◌, ℕ, List, ◌∷◌, ◌++◌, length, ⊤}
use Rattle.std.specs.List.{AllByRecursion}
use Rattle.std.specs.Str.{IsUtf8}
use Rattle.basics.specs.Members.{AreDistinct, Has}
use Rattle.config_text.specs.Lines.{line_number}
use Rattle.md5_cache.specs.Pairs.{HasEquals, entry_lines, keys_of, pairs_of}
use Rattle.md5_cache.specs.declared.fault.PairFault.{PairFault}
use Rattle.md5_cache.specs.declared.fault.PairFault.TheVariants.{Memory, NoEquals, NotUtf8, Repeated}

-- of the lines the first without an equals sign has the number
pub record LacksEqualsAt (lines : List (List ℕ)) (number : ℕ) : Type 0 where
  pub front : List (List ℕ)
  pub bad : List ℕ
  pub rest : List (List ℕ)
  pub place : lines ≡ front ++ (bad ∷ rest)
  pub split : AllByRecursion HasEquals front
  pub lacks : ¬ HasEquals bad
  pub counted : number ≡ line_number (length front)

-- of the keys this one is the first that comes a second time
pub record IsFirstRepeated (keys : List (List ℕ)) (key : List ℕ) : Type 0 where
  pub front : List (List ℕ)
  pub rest : List (List ℕ)
  pub place : keys ≡ front ++ (key ∷ rest)
  pub once : AreDistinct front
  pub again : Has front key

-- why the lines are none of pairs
abbrev pub LinesFault : List (List ℕ) → PairFault → Type 0
LinesFault lines NotUtf8 = ⊥
LinesFault lines (NoEquals line) = LacksEqualsAt lines line
LinesFault lines (Repeated key) = ⊥
LinesFault lines Memory = ⊤

-- the first fault of the text; memory may run out on any text
abbrev pub FirstFault : List ℕ → PairFault → Type 0
FirstFault bytes NotUtf8 = ¬ IsUtf8 bytes
FirstFault bytes (NoEquals line) = IsUtf8 bytes × LacksEqualsAt (entry_lines bytes) line
FirstFault bytes (Repeated key) =
    IsUtf8 bytes × (AllByRecursion HasEquals (entry_lines bytes) ×
    IsFirstRepeated (keys_of (pairs_of bytes)) key)
FirstFault bytes Memory = ⊤
