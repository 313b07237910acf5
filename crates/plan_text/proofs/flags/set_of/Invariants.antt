use Rattle.std.proofs.Common.{drop}
use Rattle.plan_text.proofs.Sets.{IsGathered}
use Rattle.plan_text.proofs.flags.set_of.Given as goal

abbrev pub invariant-loop-flag : goal.invariant-loop-flag
invariant-loop-flag l = IsGathered l.flags (drop l.flag-index l.flags) l.set
