-- Which components a component waits for.
use Rattle.std.specs.Prelude.{◌≡◌, ◌<◌, ◌≢◌, ◌↔◌, ℕ, List, [], get_or, length, slice_index}
use Rattle.basics.specs.Members.{Has}
use Rattle.merge_graph.specs.Edges.{Goes}
use Rattle.merge_graph.specs.Rows.{AreRising}
use Rattle.merge_graph.specs.declared.edge.Edge.{Edge}

-- an edge goes from the one component to the other, which is another one
abbrev pub WaitsFor : List Edge → List ℕ → ℕ → ℕ → Type 0
WaitsFor es numbers k j =
    (j ≢ k) × (x : ℕ) × (y : ℕ) × Goes es x y
    × (slice_index numbers x ≡ k) × (slice_index numbers y ≡ j)

-- just those to which an edge goes from the component, rising
pub record IsAfter (es : List Edge) (numbers : List ℕ) (k : ℕ) (after : List ℕ) : Type 0 where
  pub rising : AreRising after
  pub members : (j : ℕ) → Has after j ↔ WaitsFor es numbers k j

-- the same for each of so many components
pub record AreAfter (es : List Edge) (numbers : List ℕ) (count : ℕ)
    (afters : List (List ℕ)) : Type 0 where
  pub each : length afters ≡ count
  pub after : (k : ℕ) → k < count → IsAfter es numbers k (get_or afters k [])
