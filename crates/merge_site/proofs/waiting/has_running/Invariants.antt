use Rattle.std.proofs.Common.{◌≡◌, ◌<◌, ℕ, false}
use Rattle.merge_site.specs.Waiting.{is_under_way, phase_in}
use Rattle.merge_site.proofs.waiting.has_running.Given as goal

abbrev pub invariant-loop-group : goal.invariant-loop-group
invariant-loop-group l = (h : ℕ) → h < l.group → is_under_way (phase_in l.core h) ≡ false
