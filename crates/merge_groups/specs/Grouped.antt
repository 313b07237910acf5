-- Changes of lines as the groups of a plan.
use Rattle.std.specs.Prelude.{◌≡◌, ◌<◌, ℕ, zero, suc, List, [], ◌∷◌, Option, None, get_or, length, map}
use Rattle.std.specs.List.{flat_map}
use Rattle.std.specs.Option.{option_or}
use Rattle.dep_atom.specs.declared.package.PackageId.{PackageId}
use Rattle.pkg_state.specs.Package.{Package}
use Rattle.merge_graph.specs.After.{IsAfter}
use Rattle.merge_graph.specs.Levels.{AreLevelRows}
use Rattle.merge_graph.specs.Rows.{places_of}
use Rattle.merge_graph.specs.declared.edge.Edge.{Edge}
use Rattle.plan_law.specs.Plans.{Group, Removal, group_at}
use Rattle.choice_law.specs.Universe.{as_list}
use Rattle.merge_edges.specs.Changes.{Change as LineChange}
use Rattle.merge_groups.specs.Order.{AreInTextOrder}
use Rattle.merge_groups.specs.declared.change.Change.{Change}
use Rattle.merge_groups.specs.declared.change.Change.TheVariants as changes

-- what goes from the line, or what comes there
abbrev pub side_of : Change → LineChange → Option Package
side_of changes.Removal c = c.old
side_of changes.Addition c = c.new

abbrev pub no_change : LineChange
no_change = record { line = 0; old = None; new = None }

abbrev pub side_at : Change → List LineChange → ℕ → Option Package
side_at side cs x = side_of side (get_or cs x no_change)

-- what goes, or what comes, with the changes at these places
abbrev pub those_at : Change → List LineChange → List ℕ → List Package
those_at side cs places = flat_map (λ x. as_list (side_at side cs x)) places

abbrev pub removal_for : Package → Removal
removal_for p = record { id = p.facts.id; slot = p.facts.slot }

-- the group takes away and brings just what the changes at these places do, in the order of the
-- text of a plan
pub record Makes (cs : List LineChange) (places : List ℕ) (g : Group) : Type 0 where
  pub going : List Package
  pub leave : AreInTextOrder changes.Removal (those_at changes.Removal cs places) going
  pub removals : g.removals ≡ map removal_for going
  pub enter : AreInTextOrder changes.Addition (those_at changes.Addition cs places) g.additions

-- The fine plan: the group at a place makes the changes whose component has that number, and waits
-- for just the components to which an edge goes from it.
pub record AreFine (cs : List LineChange) (es : List Edge) (numbers : List ℕ) (count : ℕ)
    (plan : List Group) : Type 0 where
  pub each : length plan ≡ count
  pub makes : (k : ℕ) → k < count → Makes cs (places_of numbers k) (group_at plan k)
  pub waits : (k : ℕ) → k < count → IsAfter es numbers k (group_at plan k).after

-- the place before, if there is one
abbrev pub before : ℕ → List ℕ
before zero = []
before (suc k) = k ∷ []

-- The level plan: a group makes all changes of a level, and waits for the group before it alone.
pub record AreLevel (cs : List LineChange) (es : List Edge) (numbers : List ℕ) (count : ℕ)
    (plan : List Group) : Type 0 where
  pub rows : List (List ℕ)
  pub by_level : AreLevelRows es numbers count rows
  pub each : length plan ≡ length rows
  pub makes : (k : ℕ) → k < length rows → Makes cs (get_or rows k []) (group_at plan k)
  pub waits : (k : ℕ) → k < length rows → (group_at plan k).after ≡ before k

-- the package by which a change is told: what comes, or else what goes
abbrev pub told_at : List LineChange → ℕ → Option Package
told_at cs x = option_or (get_or cs x no_change).new (get_or cs x no_change).old

-- of the changes at these places
abbrev pub named_at : List LineChange → List ℕ → List PackageId
named_at cs places =
    map (λ p. p.facts.id) (flat_map (λ x. as_list (told_at cs x)) places)
