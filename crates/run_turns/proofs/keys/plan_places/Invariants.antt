use Rattle.std.proofs.Common.{◌++◌, map, take}
use Rattle.vdb_law.specs.Database.{folder_name}
use Rattle.run_files.specs.Keys.{folder_of}
use Rattle.run_files.specs.Places.{ArePlaces}
use Rattle.run_turns.specs.Plans.{coming}
use Rattle.run_turns.proofs.keys.plan_places.Given as goal

abbrev pub invariant-loop-package : goal.invariant-loop-package
invariant-loop-package l = ArePlaces (map folder_name (take l.package-index l.installed)) l.places

abbrev pub invariant-loop-group : goal.invariant-loop-group
invariant-loop-group l = ArePlaces (map folder_name l.installed ++ map folder_of (coming (take l.group-index l.plan))) l.places
