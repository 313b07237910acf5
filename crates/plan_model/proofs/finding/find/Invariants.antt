use Rattle.std.proofs.Common.{Option, drop}
use Rattle.pkg_state.specs.Package.{Package}
use Rattle.plan_model.specs.Offers.{IsFirst}
use Rattle.plan_model.proofs.Named.{told}
use Rattle.plan_model.proofs.finding.find.Given as goal

abbrev pub invariant-loop-pkg : goal.invariant-loop-pkg
invariant-loop-pkg l = (o : Option Package) → IsFirst l.addition (told (drop l.pkg-index l.pkg-items)) o → IsFirst l.addition (told l.pkg-items) o
