use Rattle.std.proofs.Common.{◌≡◌, ◌++◌, map, take}
use Rattle.merge_fit.specs.Images.{path_of}
use Rattle.run_turns.proofs.turn.add_entries.Given as goal

abbrev pub invariant-loop-entry : goal.invariant-loop-entry
invariant-loop-entry l = l.paths.items ≡ l.fn.paths.items ++ map path_of (take l.entry-index l.entries)
