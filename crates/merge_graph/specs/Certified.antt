-- What is checked of numbers before they are taken for those of the components.
use Rattle.std.specs.Prelude.{◌≡◌, ◌<◌, ◌≤◌, ◌≢◌, ℕ, Bool, List, None, Option, Some, IsTrue, false, length, map, min, slice_index, slice_index_or, true}
use Rattle.basics.specs.Members.{Has}
use Rattle.merge_graph.specs.Edges.{Reaches, turned}
use Rattle.merge_graph.specs.Numbering.{IsNumbering}
use Rattle.merge_graph.specs.declared.edge.Edge.{Edge}

-- the first of those that have the node's number
abbrev pub first_of : List ℕ → List ℕ → ℕ → ℕ
first_of numbers firsts x = slice_index firsts (slice_index numbers x)

-- each node has a number whose first node isn't behind it
abbrev pub HaveFirsts : List ℕ → List ℕ → Type 0
HaveFirsts numbers firsts = (x : ℕ) → x < length numbers →
    (slice_index numbers x < length firsts) × (first_of numbers firsts x ≤ x)

-- each number is that of its first node
abbrev pub HaveNumbers : List ℕ → List ℕ → Type 0
HaveNumbers numbers firsts = (k : ℕ) → k < length firsts →
    (slice_index firsts k < length numbers) × (slice_index numbers (slice_index firsts k) ≡ k)

-- no edge goes to a greater number
abbrev pub AllFall : List ℕ → List Edge → Type 0
AllFall numbers es = (e : Edge) → Has es e → slice_index numbers e.to ≤ slice_index numbers e.from

-- each node is reached from the first one of its number
abbrev pub AreReached : List ℕ → List ℕ → List Edge → Type 0
AreReached numbers firsts es =
    (x : ℕ) → x < length numbers → Reaches es (first_of numbers firsts x) x

-- .. those that are marked
abbrev pub AreMarkedReached : List ℕ → List ℕ → List Edge → List Bool → Type 0
AreMarkedReached numbers firsts es marks =
    (x : ℕ) → slice_index_or marks x false ≡ true → Reaches es (first_of numbers firsts x) x

-- all edges from nodes of this number go to it or to numbers below that one
abbrev pub WaitsBelow : List ℕ → List Edge → ℕ → ℕ → Type 0
WaitsBelow numbers es k bound = (e : Edge) → Has es e → slice_index numbers e.from ≡ k →
    slice_index numbers e.to ≢ k → slice_index numbers e.to < bound

-- a number may come at the latest when all that it waits for is there
abbrev pub AreOpened : List ℕ → List Edge → List ℕ → Type 0
AreOpened numbers es opened = (k bound : ℕ) → WaitsBelow numbers es k bound →
    slice_index opened k ≤ bound

-- whatever may come no later than a number, and comes later, has a greater first node
abbrev pub AreFirst : List ℕ → List ℕ → Type 0
AreFirst firsts opened = (j k : ℕ) → k < length firsts → j < k → slice_index opened k ≤ j →
    slice_index firsts j < slice_index firsts k

-- no two of them are the same
abbrev pub AreApart : List ℕ → Type 0
AreApart firsts = (j k : ℕ) → j < length firsts → k < length firsts →
    slice_index firsts j ≡ slice_index firsts k → j ≡ k

-- each number came as soon as it might, as the smallest one
abbrev pub ComeInOrder : List ℕ → List ℕ → List Edge → Type 0
ComeInOrder numbers firsts es =
    (opened : List ℕ) × AreOpened numbers es opened × AreFirst firsts opened

-- nodes with one number reach each other by way of the first one, and other numbers fall
pub record AreComponents (numbers firsts : List ℕ) (es : List Edge) : Type 0 where
  pub fall : AllFall numbers es
  pub reached : AreReached numbers firsts es
  pub reaching : AreReached numbers firsts (map turned es)

-- numbers that passed all checks, with their first nodes
pub record AreCertified (nodes : ℕ) (es : List Edge) (numbers firsts : List ℕ) : Type 0 where
  pub numbering : IsNumbering nodes es (length firsts) numbers
  pub first_nodes : HaveFirsts numbers firsts
  pub named : HaveNumbers numbers firsts

-- an edge to build on inside a component
abbrev pub IsInside : List ℕ → Edge → Type 0
IsInside numbers e = IsTrue e.builds × (slice_index numbers e.from ≡ slice_index numbers e.to)

-- the first node of a component with such an edge that comes before those of the others
abbrev pub IsFirstInside : List ℕ → List ℕ → List Edge → Option ℕ → Type 0
IsFirstInside numbers firsts es None = (e : Edge) → Has es e → ¬ IsInside numbers e
IsFirstInside numbers firsts es (Some x) =
    ((e : Edge) × Has es e × IsInside numbers e × (first_of numbers firsts e.from ≡ x))
    × ((e : Edge) → Has es e → IsInside numbers e → x ≤ first_of numbers firsts e.from)

-- the smaller one, if there is one
abbrev pub smaller : Option ℕ → ℕ → ℕ
smaller None x = x
smaller (Some y) x = min y x
