use Rattle.std.proofs.Common.{◌≡◌, ◌++◌, drop, map}
use Rattle.visible_set.specs.Configured.{file_value, parted}
use Rattle.visible_set.proofs.files.parted.Given as goal

abbrev pub invariant-loop-file : goal.invariant-loop-file
invariant-loop-file l = map file_value l.found.items ++ parted (drop l.file-index l.files) l.rest ≡ parted l.files l.assigned
