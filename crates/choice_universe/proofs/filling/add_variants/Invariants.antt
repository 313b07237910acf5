use Rattle.std.proofs.Common.{List, ◌++◌}
use Rattle.pkg_state.specs.Package.{Package}
use Rattle.choice_universe.specs.Filled.{IsFilled}
use Rattle.choice_universe.proofs.filling.add_variants.Given as goal

abbrev pub invariant-loop-variant : goal.invariant-loop-variant
invariant-loop-variant l =
    (installed before : List Package) → IsFilled installed before l.fn.offers.entries →
    IsFilled installed (before ++ l.yielded) l.offers.entries
