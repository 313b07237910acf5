-- The paths so far were given to the index.
use Rattle.std.proofs.Common.{◌++◌, List, map, take, ℕ}
use Rattle.vdb_contents.specs.Contents.{path_of}
use Rattle.vdb_overlap.specs.Indexes.{IsSeen}
use Rattle.vdb_text.proofs.owned.add_paths.Given as goal

abbrev pub invariant-loop-one : goal.invariant-loop-one
invariant-loop-one l = (ps : List (List ℕ)) → IsSeen ps l.fn.index → IsSeen (ps ++ map path_of (take l.one-index l.owned)) l.index
