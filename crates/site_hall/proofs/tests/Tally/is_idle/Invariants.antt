use Rattle.std.proofs.Common.{◌≡◌, ℕ, [], true, map, take}
use Rattle.merge_core.specs.Event.{Begin}
use Rattle.site_hall.specs.Events.{events_of}
use Rattle.site_hall.proofs.tests.Tally.is_idle.Given as goal

abbrev pub invariant-loop-found : goal.invariant-loop-found
invariant-loop-found l = events_of l.group (map (λ (g : ℕ). (Begin g, true)) (take l.found-index l.found-items)) ≡ []
