use Rattle.std.proofs.Common.{◌≡◌, ◌++◌, List, length, take, ℕ}
use Rattle.file_tree.specs.PathSets.{HasSame}
use Rattle.run_files.specs.Removing.{AddsFree}
use Rattle.run_files.proofs.removing.add_free.Given as goal

abbrev pub invariant-loop-path : goal.invariant-loop-path
invariant-loop-path l =
    ((placed : List (List ℕ)) → HasSame l.fn.taken (placed ++ l.fn.removals.items) →
    HasSame l.taken (placed ++ l.removals.items) × AddsFree placed l.yielded l.fn.removals.items l.removals.items)
    × (l.yielded ≡ take (length l.yielded) l.fn.paths.items)
