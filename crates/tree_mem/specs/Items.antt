-- Objects with their paths, in byte order, as a map.
use Rattle.std.specs.Prelude.{◌≡◌, ℕ, List, [], ◌∷◌, ◌++◌, Some, None, bytes_eq, nat_eq, Contains, ◌<◌, ◌≤◌, length, take, drop, slice_index_or, ⊤, if◌then◌else◌}
use Rattle.std.specs.declared.cmp.Ordering.{Ordering}
use Rattle.std.specs.declared.cmp.Ordering.TheVariants.{Less}
use Rattle.std.specs.Cmp.Lexicographic.{slice_cmp}
use Rattle.std.specs.Ordering.{nat_cmp, Ordering-set}
use mathlib.Core.HLevel.{×_prop, Unit-prop}
use Rattle.std.specs.List.{starts_with}
use Rattle.basics.specs.Members.{AreDistinct}
use Rattle.file_tree.specs.ObjectValue.{ObjectValue}
use Rattle.file_tree.specs.Disk.{Map}

-- an object and its path
abbrev pub Item : Type 0
Item = List ℕ × ObjectValue

-- the order of the bytes of two paths
abbrev pub path_cmp : List ℕ → List ℕ → Ordering
path_cmp p q = slice_cmp nat_cmp p q

abbrev pub paths : List Item → List (List ℕ)
paths [] = []
paths (e ∷ es) = e.0 ∷ paths es

-- the map that a list of items is: what the first item with a path has
abbrev pub held : List Item → Map
held [] = λ q. None
held (e ∷ es) = λ q. if bytes_eq e.0 q then Some e.1 else held es q

-- each path of the list comes before p
abbrev pub AllBelow : List ℕ → List Item → Type 0
AllBelow p [] = ⊤
AllBelow p (e ∷ es) = (path_cmp e.0 p ≡ Less) × AllBelow p es

-- each path of the list comes after p
abbrev pub AllAbove : List ℕ → List Item → Type 0
AllAbove p [] = ⊤
AllAbove p (e ∷ es) = (path_cmp p e.0 ≡ Less) × AllAbove p es

-- no path of the list comes before p
abbrev pub NoneBelow : List ℕ → List Item → Type 0
NoneBelow p [] = ⊤
NoneBelow p (e ∷ es) = (¬ (path_cmp e.0 p ≡ Less)) × NoneBelow p es

-- each path comes before those behind it
abbrev pub IsRising : List Item → Type 0
IsRising [] = ⊤
IsRising (e ∷ es) = AllAbove e.0 es × IsRising es

-- a rising list rises in one way
pub AllAbove-prop : (p : List ℕ) (es : List Item) → IsProp (AllAbove p es)
AllAbove-prop p [] = Unit-prop
AllAbove-prop p (e ∷ es) = ×_prop (Ordering-set _ _) (AllAbove-prop p es)

pub IsRising-prop : (es : List Item) → IsProp (IsRising es)
IsRising-prop [] = Unit-prop
IsRising-prop (e ∷ es) = ×_prop (AllAbove-prop e.0 es) (IsRising-prop es)

-- the item at this place has the path p and holds the object
pub record StandsAt (es : List Item) (p : List ℕ) (at : ℕ) : Type 0 where
  pub object : ObjectValue
  pub in_range : at < length es
  pub here : (d : Item) → slice_index_or es at d ≡ (p, object)

-- no item has the path p, which belongs at this place
pub record GoesAt (es : List Item) (p : List ℕ) (at : ℕ) : Type 0 where
  pub in_range : at ≤ length es
  pub below : AllBelow p (take at es)
  pub above : AllAbove p (drop at es)

-- the items from this place on are those that don't come before the text
pub record StartsAt (es : List Item) (text : List ℕ) (at : ℕ) : Type 0 where
  pub in_range : at ≤ length es
  pub below : AllBelow text (take at es)
  pub rest : NoneBelow text (drop at es)

-- the paths at the front of a list that begin with the text
abbrev pub front : List ℕ → List Item → List (List ℕ)
front text [] = []
front text (e ∷ es) = if starts_with nat_eq e.0 text then e.0 ∷ front text es else []

-- p is the first path that stands in the list a second time: those before it are distinct, and it
-- is one of them
pub record IsFirstRepeat (names : List (List ℕ)) (p : List ℕ) : Type 0 where
  pub before : List (List ℕ)
  pub behind : List (List ℕ)
  pub parts : names ≡ before ++ p ∷ behind
  pub distinct : AreDistinct before
  pub repeated : Contains before p
