-- What the items of the configuration say of one package (PMS 5.2.4 to 5.2.11).
use Rattle.std.specs.Prelude.{◌&&◌, ℕ, Bool, false, true, not, List, [], filter, fold, map}
use Rattle.std.specs.List.{list_any}
use Rattle.std.specs.Option.{option_map_or}
use Rattle.dep_atom.specs.Match.{matches}
use Rattle.dep_atom.specs.declared.atom.Atom.{Atom}
use Rattle.dep_atom.specs.declared.package.Facts.{Facts}
use Rattle.use_flags.specs.Changes.{has_after}
use Rattle.use_flags.specs.declared.change.Change.{Change}
use Rattle.profile_lines.specs.declared.item.Item.{Item}

-- the atom matches the package, for an asker without flags
abbrev pub is_meant : Facts → Atom → Bool
is_meant facts atom = matches atom facts []

-- the item has an atom, which matches the package
abbrev pub has_match : Facts → Item → Bool
has_match facts item = option_map_or (is_meant facts) item.atom false

-- some mask matches the package, and no unmask does
abbrev pub is_masked : List Item → List Item → Facts → Bool
is_masked masks unmasks facts =
    list_any (has_match facts) masks && not (list_any (has_match facts) unmasks)

-- the item is said of the package: its atom matches it, or it has none and is said of all
abbrev pub counts_for : Facts → Item → Bool
counts_for facts item = option_map_or (is_meant facts) item.atom true

-- the changes of the items that count, item by item in their order
abbrev pub changes_for : Facts → List Item → List (List Change)
changes_for facts items = map (λ i. i.changes.items) (filter (counts_for facts) items)

-- the flag is on once these changes are applied to no flags
abbrev pub is_turned_on : List (List Change) → List ℕ → Bool
is_turned_on changes flag = fold (λ on cs. has_after cs flag on) false changes
