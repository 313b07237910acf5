use Rattle.std.proofs.Common.{[], take}
use Rattle.choice_universe.specs.Filled.{IsFilled}
use Rattle.choice_universe.proofs.filling.add_installed.Given as goal

abbrev pub invariant-loop-one : goal.invariant-loop-one
invariant-loop-one l = IsFilled [] [] l.fn.offers.entries → IsFilled (take l.one-index l.installed) [] l.offers.entries
