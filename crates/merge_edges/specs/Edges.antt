-- The changes of a choice as a graph: each is a node, by its place among them.
use Rattle.std.specs.Prelude.{◌≡◌, ◌↔◌, ℕ, List, Some, slice_get}
use Rattle.merge_graph.specs.Edges.{Builds, Goes}
use Rattle.merge_graph.specs.declared.edge.Edge.{Edge}
use Rattle.choice_law.specs.Tree.{Choice}
use Rattle.choice_law.specs.Universe.{Universe}
use Rattle.merge_edges.specs.Changes.{changed_lines}
use Rattle.merge_edges.specs.Waits.{BuildsOn, WaitsFor}

-- the lines of two changes, by their places, are related so
abbrev pub Between : Universe → Choice → (ℕ → ℕ → Type 0) → ℕ → ℕ → Type 0
Between u c R i j =
    (l : ℕ) × (m : ℕ) × (slice_get (changed_lines u c) i ≡ Some l)
    × (slice_get (changed_lines u c) j ≡ Some m) × R l m

-- an edge goes from one change to another just where the first waits for the second, and one that
-- builds just where it builds on it
pub record AreEdges (u : Universe) (c : Choice) (es : List Edge) : Type 0 where
  pub goes : (i j : ℕ) → Goes es i j ↔ Between u c (WaitsFor u c) i j
  pub builds : (i j : ℕ) → Builds es i j ↔ Between u c (BuildsOn u c) i j
