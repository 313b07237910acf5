-- The components of a graph in the order in which they come, and cycles of builds.
use Rattle.std.specs.Prelude.{◌≡◌, ◌<◌, ◌≤◌, ◌⊎◌, ◌↔◌, ℕ, List, slice_index, length}
use Rattle.basics.specs.Members.{Has}
use Rattle.merge_graph.specs.Edges.{AreTogether, Builds, Goes}
use Rattle.merge_graph.specs.Rows.{AreRising}
use Rattle.merge_graph.specs.declared.edge.Edge.{Edge}

-- an edge to build on stands inside the component of the node
abbrev pub HasBuildInside : List Edge → ℕ → Type 0
HasBuildInside es x =
    (y : ℕ) × (z : ℕ) × Builds es y z × AreTogether es x y × AreTogether es x z

-- no component has one
abbrev pub HasNoBuildInside : List Edge → Type 0
HasNoBuildInside es = (x : ℕ) → ¬ HasBuildInside es x

-- the component of the smallest node whose component has one: all its nodes, rising
pub record IsBuildCycle (nodes : ℕ) (es : List Edge) (cycle : List ℕ) : Type 0 where
  pub first : ℕ
  pub has_build : HasBuildInside es first
  pub smallest : (x : ℕ) → x < nodes → HasBuildInside es x → first ≤ x
  pub rising : AreRising cycle
  pub members : (x : ℕ) → Has cycle x ↔ ((x < nodes) × AreTogether es first x)

-- what the component of the node waits for, itself aside, has numbers below this one
abbrev pub IsReady : List Edge → List ℕ → ℕ → ℕ → Type 0
IsReady es numbers number x = (y z : ℕ) → AreTogether es x y → Goes es y z →
    AreTogether es x z ⊎ (slice_index numbers z < number)

-- Each node has the number of its component. Numbers begin at 0 and have no gaps. Each edge goes to
-- its own component or to one that has a smaller number. And what has a number was, of all
-- components that had none yet and were ready, the one with the smallest node: for any node of one
-- that was ready and came later, it has a smaller one.
pub record IsNumbering (nodes : ℕ) (es : List Edge) (count : ℕ) (numbers : List ℕ) : Type 0 where
  pub each : length numbers ≡ nodes
  pub below : (x : ℕ) → x < nodes → slice_index numbers x < count
  pub no_gap : (k : ℕ) → k < count → (x : ℕ) × (x < nodes) × (slice_index numbers x ≡ k)
  pub components : (x y : ℕ) → x < nodes → y < nodes →
      AreTogether es x y ↔ (slice_index numbers x ≡ slice_index numbers y)
  pub falls : (x y : ℕ) → Goes es x y → slice_index numbers y ≤ slice_index numbers x
  pub smallest : (x k : ℕ) → x < nodes → k < slice_index numbers x → IsReady es numbers k x →
      (y : ℕ) × (y < nodes) × (slice_index numbers y ≡ k) × (y < x)
