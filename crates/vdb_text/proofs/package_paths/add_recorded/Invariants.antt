use Rattle.std.proofs.Common.{◌≡◌, ◌++◌, map, take}
use Rattle.vdb_contents.specs.Contents.{path_of}
use Rattle.vdb_text.proofs.package_paths.add_recorded.Given as goal

abbrev pub invariant-loop-one : goal.invariant-loop-one
invariant-loop-one l = l.paths.items ≡ l.fn.paths.items ++ map path_of (take l.one-index l.owned)
