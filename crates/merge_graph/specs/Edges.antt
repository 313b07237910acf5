-- Changes that wait for each other: nodes, edges between them, and what is reached along edges.
use Rattle.std.specs.Prelude.{◌≡◌, ◌&&◌, ℕ, Bool, List, IsTrue, nat_lt}
use Rattle.std.specs.List.{list_all}
use Rattle.basics.specs.Members.{Has}
use Rattle.merge_graph.specs.declared.edge.Edge.{Edge}

-- an edge of the list goes from the first node to the second one: the first one waits for it
abbrev pub Goes : List Edge → ℕ → ℕ → Type 0
Goes es x y = (e : Edge) × Has es e × (e.from ≡ x) × (e.to ≡ y)

-- .. and the first one builds on it
abbrev pub Builds : List Edge → ℕ → ℕ → Type 0
Builds es x y = (e : Edge) × Has es e × IsTrue e.builds × (e.from ≡ x) × (e.to ≡ y)

-- the second node is reached from the first one, along any number of edges
pub data Reaches (es : List Edge) : ℕ → ℕ → Type 0 where
  stays : {x : ℕ} → Reaches es x x
  goes : {x y z : ℕ} → Goes es x y → Reaches es y z → Reaches es x z

-- two nodes are in one component where each is reached from the other
abbrev pub AreTogether : List Edge → ℕ → ℕ → Type 0
AreTogether es x y = Reaches es x y × Reaches es y x

-- the edges are between so many nodes
abbrev pub is_between : ℕ → Edge → Bool
is_between nodes e = nat_lt e.from nodes && nat_lt e.to nodes

abbrev pub AreBetween : ℕ → List Edge → Type 0
AreBetween nodes es = IsTrue (list_all (is_between nodes) es)

-- an edge the other way round
abbrev pub turned : Edge → Edge
turned e = record { from = e.to; to = e.from; builds = e.builds }
