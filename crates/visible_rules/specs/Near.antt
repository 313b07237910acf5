-- How the items of flags that may count for a package are found by its name.
use denote.Ref.{Bor}
use Rattle.std.specs.Prelude.{◌≡◌, ◌≤◌, ◌++◌, ◌-◌, ℕ, Bool, true, List, [], ◌∷◌, drop, filter, length, map, take, ⊤}
use Rattle.std.specs.Option.{option_map_or}
use Rattle.pkg_state.specs.Index.{listed}
use Rattle.profile_lines.specs.declared.item.Item.{Item}
use Rattle.visible_rules.specs.Index.{is_of}
use Rattle.visible_rules.specs.declared.near.Near.{Near}
use Rattle.visible_rules.specs.declared.near.Placed.{Placed}

-- the item may count for packages of this name: its atom is of them, or it has none
abbrev pub is_near : List ℕ → Item → Bool
is_near name item = option_map_or (is_of name) item.atom true

-- the items without an atom from a place on, and each of the others behind as many of them as stand
-- before it
abbrev pub woven : List (Bor Item) → ℕ → List Placed → List (Bor Item)
woven plain from [] = drop from plain
woven plain from (placed ∷ others) =
    take (placed.before - from) (drop from plain)
    ++ placed.item ∷ woven plain placed.before others

-- at most so many of those without an atom stand before each
abbrev pub AreWithin : ℕ → List Placed → Type 0
AreWithin count [] = ⊤
AreWithin count (placed ∷ others) = (placed.before ≤ count) × AreWithin count others

-- woven with those without an atom, what stands under a name is what may count for its packages
pub record AreNear (items : List Item) (near : Near) : Type 0 where
  pub are : (name : List ℕ) →
      map (λ i. i.now) (woven near.plain.items 0 (listed near.named.lists name))
      ≡ filter (is_near name) items
  pub within : (name : List ℕ) →
      AreWithin (length near.plain.items) (listed near.named.lists name)
