-- From here the steps that are left lead to where all of them lead from the beginning.
use Rattle.std.proofs.Common.{◌≡◌, drop}
use Rattle.profile_folders.specs.Places.{led}
use Rattle.profile_folders.proofs.Places.{told}
use Rattle.profile_folders.proofs.place.follow_all.Given as goal

abbrev pub invariant-loop-step : goal.invariant-loop-step
invariant-loop-step l = led (told l.at.items) (told (drop l.step-index l.steps)) ≡ led (told l.fn.at.items) (told l.steps)
