-- Which nodes are reached from which, as a table, and numbers that are given one after another.
use Rattle.std.specs.Prelude.{◌≡◌, ◌<◌, ◌&&◌, ◌||◌, ℕ, Bool, List, [], None, Option, false, get_or, length, not, true}
use Rattle.std.specs.List.{list_all}
use Rattle.std.specs.Option.{is_none, is_some}
use Rattle.merge_graph.specs.Edges.{Reaches}
use Rattle.merge_graph.specs.declared.edge.Edge.{Edge}

-- a row of so many answers
pub record IsRow (nodes : ℕ) (f : ℕ → Bool) (row : List Bool) : Type 0 where
  pub each : length row ≡ nodes
  pub is : (y : ℕ) → y < nodes → get_or row y false ≡ f y

-- so many of them
pub record IsTable (count nodes : ℕ) (f : ℕ → ℕ → Bool) (rows : List (List Bool)) : Type 0 where
  pub each : length rows ≡ count
  pub row : (x : ℕ) → x < count → IsRow nodes (f x) (get_or rows x [])

-- the table has this answer
abbrev pub reached : List (List Bool) → ℕ → ℕ → Bool
reached rows x y = get_or (get_or rows x []) y false

-- the same once one node is reached from another one
abbrev pub reached_with : List (List Bool) → ℕ → ℕ → ℕ → ℕ → Bool
reached_with rows from to x y = reached rows x y || (reached rows x from && reached rows to y)

-- the table tells of each node which ones are reached from it
pub record IsClosure (nodes : ℕ) (es : List Edge) (rows : List (List Bool)) : Type 0 where
  pub each : length rows ≡ nodes
  pub long : (x : ℕ) → x < nodes → length (get_or rows x []) ≡ nodes
  pub sound : (x y : ℕ) → x < nodes → y < nodes → reached rows x y ≡ true → Reaches es x y
  pub complete : (x y : ℕ) → x < nodes → y < nodes → Reaches es x y → reached rows x y ≡ true

abbrev pub in_one : List (List Bool) → ℕ → ℕ → Bool
in_one rows x y = reached rows x y && reached rows y x

-- the number that a node was given
abbrev pub given_to : List (Option ℕ) → ℕ → Option ℕ
given_to given x = get_or given x None

-- the edge doesn't keep the component of the node from coming
abbrev pub lets_come : List (List Bool) → List (Option ℕ) → ℕ → Edge → Bool
lets_come rows given x e =
    not (in_one rows x e.from) || (in_one rows x e.to || is_some (given_to given e.to))

-- the node has no number, and may get one
abbrev pub may_come : List (List Bool) → List Edge → List (Option ℕ) → ℕ → Bool
may_come rows es given x = is_none (given_to given x) && list_all (lets_come rows given x) es
