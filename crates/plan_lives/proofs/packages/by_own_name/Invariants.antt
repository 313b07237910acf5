use Rattle.std.proofs.Common.{map, take}
use Rattle.pkg_state.specs.Index.{AreNamed}
use Rattle.plan_lives.proofs.packages.by_own_name.Given as goal

abbrev pub invariant-loop-pkg : goal.invariant-loop-pkg
invariant-loop-pkg l = AreNamed (map (λ p. p.now) (take l.pkg-index l.packages)) l.named.lists
