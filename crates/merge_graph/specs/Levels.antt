-- Levels: how far a component has to stand behind those that it builds on.
use Rattle.std.specs.Prelude.{◌≡◌, ◌+◌, ◌<◌, ◌≤◌, ◌↔◌, ℕ, List, [], None, Option, Some, get_or, slice_index, length, if◌then◌else◌}
use Rattle.basics.specs.Members.{Has}
use Rattle.merge_graph.specs.Edges.{AreBetween, Builds, Goes}
use Rattle.merge_graph.specs.Numbering.{HasNoBuildInside, IsNumbering}
use Rattle.merge_graph.specs.Rows.{AreRising}
use Rattle.merge_graph.specs.declared.edge.Edge.{Edge}

-- the level of each of so many components is at least 1, at least that of what it waits for, and
-- above that of what it builds on
pub record AreHigh (es : List Edge) (numbers : List ℕ) (count : ℕ) (level : ℕ → ℕ) : Type 0 where
  pub least : (k : ℕ) → k < count → 1 ≤ level k
  pub waits : (x y : ℕ) → Goes es x y →
      level (slice_index numbers y) ≤ level (slice_index numbers x)
  pub builds : (x y : ℕ) → Builds es x y →
      level (slice_index numbers y) < level (slice_index numbers x)

-- these levels are so, and none that are so are less
pub record AreLevels (es : List Edge) (numbers : List ℕ) (count : ℕ)
    (levels : List ℕ) : Type 0 where
  pub each : length levels ≡ count
  pub high : AreHigh es numbers count (slice_index levels)
  pub lowest : (level : ℕ → ℕ) → AreHigh es numbers count level → (k : ℕ) → k < count →
      slice_index levels k ≤ level k

-- the numbers are those of the components of some nodes, and no component has a build inside
abbrev pub IsNumbered : List Edge → ℕ → List ℕ → Type 0
IsNumbered es count numbers =
    (nodes : ℕ) × AreBetween nodes es × HasNoBuildInside es × IsNumbering nodes es count numbers

-- by how much the first node of the edge has to stand above the second one
abbrev pub step_of : Edge → ℕ
step_of e = if e.builds then 1 else 0

-- the level that the edge asks for, over these levels
abbrev pub asked : List ℕ → List ℕ → Option Edge → ℕ
asked numbers levels None = 0
asked numbers levels (Some e) = slice_index levels (slice_index numbers e.to) + step_of e

-- The nodes by level: those of each level from 1 on, rising. Each level has some, and each node is
-- among them.
pub record AreLevelRows (es : List Edge) (numbers : List ℕ) (count : ℕ)
    (rows : List (List ℕ)) : Type 0 where
  pub levels : List ℕ
  pub are_levels : AreLevels es numbers count levels
  pub rising : (k : ℕ) → k < length rows → AreRising (get_or rows k [])
  pub members : (k : ℕ) → k < length rows → (x : ℕ) → Has (get_or rows k []) x
      ↔ ((x < length numbers) × (slice_index levels (slice_index numbers x) ≡ k + 1))
  pub all : (x : ℕ) → x < length numbers → slice_index levels (slice_index numbers x) ≤ length rows
  pub no_gap : (k : ℕ) → k < length rows → (x : ℕ) × Has (get_or rows k []) x
