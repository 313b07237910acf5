use Rattle.std.proofs.Common.{◌<◌, ℕ}
use Rattle.merge_site.specs.Waiting.{IsReady}
use Rattle.merge_site.proofs.waiting.first_ready.Given as goal

abbrev pub invariant-loop-group : goal.invariant-loop-group
invariant-loop-group l = (h : ℕ) → h < l.group → IsReady l.core l.groups h → ⊥
