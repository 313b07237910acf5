-- How items stack: each stands behind those before it, and a hyphen takes the equal ones back
-- (PMS 5.2.4).
use Rattle.std.specs.Prelude.{◌&&◌, ◌++◌, Bool, false, true, not, List, [], ◌∷◌, bytes_eq, filter, fold, if◌then◌else◌, ℕ}
use Rattle.std.specs.List.{list_any}
use Rattle.profile_lines.specs.declared.item.Entry.{Entry}
use Rattle.profile_lines.specs.declared.item.Form.{Form}
use Rattle.profile_lines.specs.declared.item.Form.TheVariants.{Flags, Keywords, Masks, Rules}
use Rattle.profile_lines.specs.declared.item.Item.{Item}

-- a mask that is repeated stands once; items of other forms stand line by line
abbrev pub stands_once : Form → Bool
stands_once Masks = true
stands_once Rules = false
stands_once Flags = false
stands_once Keywords = false

-- the item has this text
abbrev pub has_text : List ℕ → Item → Bool
has_text text item = bytes_eq item.text text

-- what stands once the item is added
abbrev pub with_item : Form → List Item → Item → List Item
with_item form standing item =
    if stands_once form && list_any (has_text item.text) standing then standing
    else standing ++ (item ∷ [])

-- what stands once the line counts
abbrev pub with_entry : Form → List Item → Entry → List Item
with_entry form standing entry =
    if entry.takes_back then filter (λ item. not (has_text entry.item.text item)) standing
    else with_item form standing entry.item

-- what stands once all the lines count
abbrev pub with_entries : Form → List Item → List Entry → List Item
with_entries form standing entries = fold (with_entry form) standing entries
