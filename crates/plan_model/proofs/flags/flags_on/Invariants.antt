use Rattle.std.proofs.Common.{◌≡◌, ◌||◌, ℕ, List}
use Rattle.pms_names.specs.Flags.{has}
use Rattle.plan_model.proofs.flags.flags_on.Given as goal

abbrev pub invariant-loop-flag : goal.invariant-loop-flag
invariant-loop-flag l = (q : List ℕ) → (has l.flag-iterator q || has l.on q) ≡ (has l.text q || has l.implicit q)
