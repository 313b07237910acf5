-- The groups of the lines that have been read.
use Rattle.std.specs.Prelude.{◌≡◌, ◌<◌, ◌+◌, ℕ, List, [], ◌∷◌, ◌++◌, Option, None, Some, length, map, option_map, ⊤}
use Rattle.plan_text.specs.Lines.{LineValue}
use Rattle.plan_text.specs.Plans.{GroupValue, group_value}
use Rattle.plan_text.specs.Texts.{group_lines, groups_lines}
use Rattle.plan_text.specs.declared.draft.Draft.{Draft}
use Rattle.plan_text.specs.declared.standing.Place.{Place}
use Rattle.plan_text.specs.declared.standing.Place.TheVariants as places

-- the group whose lines are being read
abbrev pub current_group : Draft → Option GroupValue
current_group d = option_map group_value d.current

-- the groups before it
abbrev pub whole_groups : Draft → List GroupValue
whole_groups d = map group_value d.groups.items

-- the lines of a group that is being read, if there is one
abbrev pub current_lines : ℕ → Option GroupValue → List LineValue
current_lines n None = []
current_lines n (Some g) = group_lines n g

-- how many groups have begun
abbrev pub begun : List GroupValue → Option GroupValue → ℕ
begun gs None = length gs
begun gs (Some g) = length gs + 1

-- the lines of the groups
abbrev pub lines_so_far : List GroupValue → Option GroupValue → List LineValue
lines_so_far gs current = groups_lines 1 gs ++ current_lines (length gs + 1) current

abbrev pub draft_lines : Draft → List LineValue
draft_lines d = lines_so_far (whole_groups d) (current_group d)

abbrev pub draft_count : Draft → ℕ
draft_count d = begun (whole_groups d) (current_group d)

-- the group that is being read is such as it is behind the last line
abbrev pub FitsGroup : Place → GroupValue → Type 0
FitsGroup places.Start g = ⊥
FitsGroup places.Header g = ⊥
FitsGroup places.Group g = (g.after ≡ []) × (g.removals ≡ []) × (g.additions ≡ [])
FitsGroup places.After g = (g.removals ≡ []) × (g.additions ≡ [])
FitsGroup places.Removals g = g.additions ≡ []
FitsGroup places.Additions g = 0 < length g.additions

-- no group is open before the first one
abbrev pub FitsNone : Place → Type 0
FitsNone places.Start = ⊤
FitsNone places.Header = ⊤
FitsNone places.Group = ⊥
FitsNone places.After = ⊥
FitsNone places.Removals = ⊥
FitsNone places.Additions = ⊥

abbrev pub FitsPlace : Place → Option GroupValue → Type 0
FitsPlace place None = FitsNone place
FitsPlace place (Some g) = FitsGroup place g

-- the group has one line more
abbrev pub GrowsBy : GroupValue → GroupValue → LineValue → Type 0
GrowsBy was now l = (n : ℕ) → group_lines n now ≡ group_lines n was ++ (l ∷ [])

-- the groups, the last of which is the one that is being read
abbrev pub all_groups : List GroupValue → Option GroupValue → List GroupValue
all_groups gs None = gs
all_groups gs (Some g) = gs ++ (g ∷ [])
