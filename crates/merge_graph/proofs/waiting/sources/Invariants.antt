use Rattle.std.proofs.Common.{◌≡◌, map, take}
use Rattle.std.specs.Prelude.{slice_index}
use Rattle.merge_graph.proofs.waiting.sources.Given as goal

abbrev pub invariant-loop-edge : goal.invariant-loop-edge
invariant-loop-edge l = l.sources.items ≡ map (λ e. slice_index l.numbers e.from) (take l.edge-index l.edges)
