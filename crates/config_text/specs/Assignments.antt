-- A text of assignments: blanks, comments and assignments, in any order.
use Rattle.std.specs.Prelude.{◌≡◌, ℕ, Bool, true, not, List, [], ◌∷◌, ◌++◌, bytes_eq, fold, if◌then◌else◌}
use Rattle.std.specs.List.{AllByRecursion, flat_map}
use Rattle.config_text.specs.Follow.{Follow, Stops}
use Rattle.basics.specs.Blanks.{is_blank}
use Rattle.config_text.specs.Lines.{is_newline, line_behind}
use Rattle.config_text.specs.Values.{AreRuns, IsKey, Part, Plain, Escaped, Named, Braced, Run, Bare, Single, Double, spell_runs}
use Rattle.config_text.specs.declared.assignment.Assignment.{Assignment}

abbrev pub hash : ℕ
hash = 35

abbrev pub equals : ℕ
equals = 61

-- the byte ends no line
abbrev pub is_in_line : ℕ → Bool
is_in_line b = not (is_newline b)

-- the byte is no blank
abbrev pub is_solid : ℕ → Bool
is_solid b = not (is_blank b)

pub data Item : Type 0 where
  Blank : ℕ → Item
  -- what stands behind a `#`, to the end of its line
  Comment : List ℕ → Item
  -- a key, and the runs of its value
  Assign : List ℕ → List Run → Item

abbrev pub spell_item : Item → List ℕ
spell_item (Blank b) = b ∷ []
spell_item (Comment bytes) = hash ∷ bytes
spell_item (Assign key runs) = key ++ (equals ∷ spell_runs runs)

-- the item is in form in front of the text: a comment goes on to the end of its line, and a value
-- to the next blank
abbrev pub IsItem : Item → List ℕ → Type 0
IsItem (Blank b) after = is_blank b ≡ true
IsItem (Comment bytes) after =
    AllByRecursion (λ b. is_in_line b ≡ true) bytes × Stops is_in_line after
IsItem (Assign key runs) after = IsKey key × (AreRuns runs after × Stops is_solid after)

abbrev pub AreItems : List Item → List ℕ → Type 0
AreItems items after = Follow IsItem spell_item items after

abbrev pub spell_items : List Item → List ℕ
spell_items items = flat_map spell_item items

-- the last value of the name, or nothing
abbrev pub last_value : List Assignment → List ℕ → List ℕ
last_value known name =
    fold (λ value a. if bytes_eq a.key name then a.value else value) [] known

-- what a part gives, where names have these values; a line that is broken in double quotes goes on
abbrev pub part_value : (List ℕ → List ℕ) → Part → List ℕ
part_value named (Plain b) = b ∷ []
part_value named (Escaped b) = if is_newline b then [] else b ∷ []
part_value named (Named name) = named name
part_value named (Braced name) = named name

abbrev pub run_value : (List ℕ → List ℕ) → Run → List ℕ
run_value named (Bare part) = part_value named part
run_value named (Single bytes) = bytes
run_value named (Double parts) = flat_map (part_value named) parts

abbrev pub value : (List ℕ → List ℕ) → List Run → List ℕ
value named runs = flat_map (run_value named) runs

-- the assignment that the item is, in this line
abbrev pub said_by : (List ℕ → List ℕ) → ℕ → Item → List Assignment
said_by named line (Blank b) = []
said_by named line (Comment bytes) = []
said_by named line (Assign key runs) =
    record { line = line; key = key; value = value named runs } ∷ []

-- the assignment of an item that stands behind the text, where these are known
abbrev pub next_said : List Assignment → List ℕ → Item → List Assignment
next_said known front item = said_by (last_value known) (line_behind front) item

-- the assignments of the items, in their order: each is known behind it
abbrev pub said : List Assignment → List ℕ → List Item → List Assignment
said known front [] = []
said known front (item ∷ items) =
    next_said known front item ++
    said (known ++ next_said known front item) (front ++ spell_item item) items

-- where these are known the text says those
pub record Says (known : List Assignment) (bytes : List ℕ) (those : List Assignment) : Type 0 where
  pub items : List Item
  pub form : AreItems items []
  pub spelled : bytes ≡ spell_items items
  pub means : those ≡ said known [] items
