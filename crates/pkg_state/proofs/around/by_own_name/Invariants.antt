use Rattle.std.proofs.Common.{take}
use Rattle.pkg_state.specs.Index.{AreNamed}
use Rattle.pkg_state.proofs.around.by_own_name.Given as goal

abbrev pub invariant-loop-package : goal.invariant-loop-package
invariant-loop-package l = AreNamed (take l.package-index l.packages) l.named.lists
