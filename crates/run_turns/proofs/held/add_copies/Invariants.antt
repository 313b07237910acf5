use Rattle.std.proofs.Common.{◌≡◌, ◌++◌, take}
use Rattle.run_turns.proofs.held.add_copies.Given as goal

abbrev pub invariant-loop-path : goal.invariant-loop-path
invariant-loop-path l = l.paths.items ≡ l.fn.paths.items ++ take l.path-index l.held
