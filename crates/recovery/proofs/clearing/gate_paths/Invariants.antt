use Rattle.std.proofs.Common.{◌≡◌, ◌++◌, drop, map}
use Rattle.merge_journal.specs.Names.{gate_path}
use Rattle.recovery.proofs.clearing.gate_paths.Given as goal

abbrev pub invariant-loop-group : goal.invariant-loop-group
invariant-loop-group l = l.paths.items ++ map gate_path (drop l.group-index l.groups) ≡ map gate_path l.groups
