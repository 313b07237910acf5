-- The grammar of REQUIRED_USE (PMS 7.3.4).
use Rattle.std.specs.Prelude.{ℕ, Bool, true, false, List, ◌∷◌}
use Rattle.dep_group.specs.declared.token.Opener.{Opener}
use Rattle.dep_group.specs.Tokens.{Grammar, IsFlag}
use Rattle.dep_group.specs.Trees.{is_met}
use Rattle.dep_group.specs.Shapes.{exclamation_mark}
use Rattle.required_use.specs.declared.required.Item.{Item}

-- a flag that is wanted off has an exclamation mark before it
abbrev pub item_text : List ℕ → Bool → List ℕ
item_text flag true = flag
item_text flag false = exclamation_mark ∷ flag

-- items are flags and denied flags, groups may count their members, and nothing has brackets
abbrev pub grammar : Grammar Item
grammar =
    record {
      spell = λ a. item_text a.flag a.on;
      IsLeaf = λ a. IsFlag a.flag;
      counts = true;
      brackets = false;
    }

-- no item is kept out of any-of groups
abbrev pub never : Item → Bool
never a = false

-- an item holds where its flag is on, or where it is not; `on` says which flags are on
abbrev pub is_on : (List ℕ → Bool) → Item → Bool
is_on on a = is_met on a.flag a.on

-- the groups are those of their openers
abbrev pub kind : Opener (List ℕ) → Opener (List ℕ)
kind opener = opener
