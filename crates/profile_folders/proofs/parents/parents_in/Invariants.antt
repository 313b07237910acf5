-- The lines so far lead to the parents so far.
use Rattle.std.proofs.Common.{take}
use Rattle.std.specs.List.{AllZip}
use Rattle.profile_folders.specs.Parents.{LeadsTo}
use Rattle.profile_folders.proofs.parents.parents_in.Given as goal

abbrev pub invariant-loop-line : goal.invariant-loop-line
invariant-loop-line l = AllZip (LeadsTo l.folder) (take l.line-index l.line-items) l.parents.items
