use Rattle.std.proofs.Common.{◌≡◌, ◌++◌, map}
use Rattle.pkg_state.proofs.state.State.list.Given as goal

abbrev pub invariant-loop-package : goal.invariant-loop-package
invariant-loop-package l = map (λ p. p.now) l.list.items ++ l.package-iterator ≡ l.self
