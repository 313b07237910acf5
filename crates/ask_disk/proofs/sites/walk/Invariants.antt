use Rattle.ask_disk.specs.Three.{AreThree}
use Rattle.ask_disk.proofs.sites.walk.Given as goal

abbrev pub invariant-loop-digit : goal.invariant-loop-digit
invariant-loop-digit l = AreThree l.site.keeping
