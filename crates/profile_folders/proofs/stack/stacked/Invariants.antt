-- What stands behind the texts so far.
use Rattle.std.proofs.Common.{◌≡◌, take}
use Rattle.profile_folders.specs.Stacks.{stacked}
use Rattle.profile_folders.proofs.Places.{told}
use Rattle.profile_folders.proofs.stack.stacked.Given as goal

abbrev pub invariant-loop-text : goal.invariant-loop-text
invariant-loop-text l = told l.standing.keys ≡ stacked (told (take l.text-index l.texts))
