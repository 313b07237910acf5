use Rattle.std.proofs.Common.{List, []}
use Rattle.pkg_state.specs.Package.{Package}
use Rattle.choice_universe.specs.Filled.{IsFilled}
use Rattle.choice_universe.specs.Offers.{variants_of}
use Rattle.choice_universe.proofs.filling.add_candidates.Given as goal

abbrev pub invariant-loop-candidate : goal.invariant-loop-candidate
invariant-loop-candidate l =
    (installed : List Package) → IsFilled installed [] l.fn.offers.entries →
    IsFilled installed (variants_of l.yielded) l.offers.entries
