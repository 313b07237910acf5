-- What follows for the groups of a fine plan.
use Rattle.std.specs.Prelude.{◌≡◌, ◌<◌, ◌↔◌, ℕ, List, length, slice_index}
use Rattle.pkg_state.specs.Package.{Package}
use Rattle.merge_graph.specs.Edges.{AreTogether}
use Rattle.merge_graph.specs.declared.edge.Edge.{Edge}
use Rattle.plan_law.specs.Plans.{WaitsForEarlier}
use Rattle.plan_text.specs.Plans.{GroupValue}
use Rattle.merge_edges.specs.Changes.{Change}
use Rattle.merge_groups.specs.Arranged.{IsFineOf}

-- two changes come in one group exactly where each waits for the other in the end
abbrev pub OneGroupIsOneComponent : List Edge → ℕ → List ℕ → Type 0
OneGroupIsOneComponent es changes numbers =
    (x y : ℕ) → x < changes → y < changes →
    AreTogether es x y ↔ (slice_index numbers x ≡ slice_index numbers y)

-- so it is in a fine plan, and each of its groups waits for earlier ones alone, hence none for
-- itself in the end
abbrev pub FinePlansArePartings : Type 0
FinePlansArePartings =
    (start : List Package) (cs : List Change) (es : List Edge) (texts : List GroupValue)
    (is : IsFineOf start cs es texts) →
    OneGroupIsOneComponent es (length cs) is.numbers × WaitsForEarlier is.plan
