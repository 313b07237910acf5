use Rattle.std.proofs.Common.{◌≡◌, ◌++◌, drop}
use Rattle.merge_edges.specs.Found.{other_lines}
use Rattle.merge_edges.proofs.apart.other_lines.Given as goal

abbrev pub invariant-loop-other : goal.invariant-loop-other
invariant-loop-other l = l.others.items ++ other_lines l.line (drop l.other-index l.lines) ≡ other_lines l.line l.lines
