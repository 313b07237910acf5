-- What follows from the rules of numbers and levels.
use Rattle.std.specs.Prelude.{◌≡◌, ◌<◌, ℕ, List}
use Rattle.basics.specs.Members.{Has}
use Rattle.merge_graph.specs.After.{IsAfter}
use Rattle.merge_graph.specs.Edges.{AreBetween}
use Rattle.merge_graph.specs.Levels.{AreLevels}
use Rattle.merge_graph.specs.Numbering.{IsNumbering}
use Rattle.merge_graph.specs.declared.edge.Edge.{Edge}

-- a graph has one numbering
abbrev pub NumbersAreOne : Type 0
NumbersAreOne = (nodes : ℕ) (es : List Edge) (count other : ℕ) (numbers others : List ℕ) →
    AreBetween nodes es → IsNumbering nodes es count numbers → IsNumbering nodes es other others →
    numbers ≡ others

-- what a component waits for has a smaller number, so no component waits for itself in the end
abbrev pub WaitsFall : Type 0
WaitsFall = (nodes : ℕ) (es : List Edge) (count : ℕ) (numbers : List ℕ) (k j : ℕ) (after : List ℕ) →
    IsNumbering nodes es count numbers → IsAfter es numbers k after → Has after j → j < k

-- components have one level each
abbrev pub LevelsAreOne : Type 0
LevelsAreOne = (es : List Edge) (numbers : List ℕ) (count : ℕ) (levels others : List ℕ) →
    AreLevels es numbers count levels → AreLevels es numbers count others → levels ≡ others
