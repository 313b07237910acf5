use Rattle.std.proofs.Common.{◌≡◌, ◌&&◌, ◌||◌, ℕ, List}
use Rattle.pms_names.specs.Flags.{has}
use Rattle.vdb_files.proofs.flags.recorded_flags.Given as goal

abbrev pub invariant-loop-flag : goal.invariant-loop-flag
invariant-loop-flag l = (q : List ℕ) → (has l.flags q || (has l.facts.iuse q && has l.flag-iterator q)) ≡ (has l.facts.iuse q && has l.facts.enabled q)
