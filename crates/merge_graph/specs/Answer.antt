-- What is answered of a graph: its numbers, or the first cycle of builds.
use Rattle.std.specs.Prelude.{ℕ, List}
use Rattle.merge_graph.specs.Numbering.{HasNoBuildInside, IsBuildCycle, IsNumbering}
use Rattle.merge_graph.specs.declared.edge.Edge.{Edge}
use Rattle.merge_graph.specs.declared.numbering.Numbering.{Numbering}
use Rattle.merge_graph.specs.declared.numbering.Numbering.TheVariants.{BuildCycle, Numbers}

-- The first cycle of builds, where a component has an edge to build on inside. Else the numbers.
abbrev pub IsAnswer : ℕ → List Edge → Numbering → Type 0
IsAnswer nodes es (BuildCycle cycle) = IsBuildCycle nodes es cycle.items
IsAnswer nodes es (Numbers numbers count) =
    HasNoBuildInside es × IsNumbering nodes es count numbers.items
