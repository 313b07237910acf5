use Rattle.std.proofs.Common.{◌≡◌}
use Rattle.pms_names.specs.Flags.{IsRising}
use Rattle.law_commit.specs.Lit.{lit_flags}
use Rattle.run_opening.proofs.lighting.add_flags.Given as goal

abbrev pub invariant-loop-flag : goal.invariant-loop-flag
invariant-loop-flag l = (lit_flags l.flag-iterator l.on ≡ lit_flags l.flags l.fn.on) × IsRising l.on
