-- Items that stack: a text adds itself, and behind a hyphen it takes an item back (PMS 5.2.4).
use Rattle.std.specs.Prelude.{◌≡◌, ◌==◌, ℕ, List, [], ◌∷◌, ◌++◌, Option, None, Some, bytes_eq, fold, if◌then◌else◌}
use Rattle.std.specs.Option.{unwrap_or}
use Rattle.basics.specs.Members.{Has}
use Rattle.indexmap.specs.IndexSet.{insert_key, remove_key}

abbrev pub hyphen : ℕ
hyphen = 45

-- the item that a text takes back, if it takes one back
abbrev pub taken_back : List ℕ → Option (List ℕ)
taken_back [] = None
taken_back (b ∷ bytes) = if b == hyphen then Some bytes else None

-- the text without a hyphen before it
abbrev pub unsigned : List ℕ → List ℕ
unsigned text = unwrap_or (taken_back text) text

-- what stands once an item is taken back, or once the text is added, which stands behind the others
-- where it isn't there
abbrev pub with_change : List (List ℕ) → List ℕ → Option (List ℕ) → List (List ℕ)
with_change standing text None = insert_key bytes_eq standing text
with_change standing text (Some item) = remove_key (bytes_eq item) standing

-- what stands once the text counts
abbrev pub with_text : List (List ℕ) → List ℕ → List (List ℕ)
with_text standing text = with_change standing text (taken_back text)

-- what stands behind all texts, in the order in which it was first added
abbrev pub stacked : List (List ℕ) → List (List ℕ)
stacked texts = fold with_text [] texts

-- one of the texts adds the item, and none behind that takes it back
pub record Stands (texts : List (List ℕ)) (item : List ℕ) : Type 0 where
  pub front : List (List ℕ)
  pub rest : List (List ℕ)
  pub place : texts ≡ front ++ (item ∷ rest)
  pub adds : taken_back item ≡ None
  pub stays : ¬ Has rest (hyphen ∷ item)
