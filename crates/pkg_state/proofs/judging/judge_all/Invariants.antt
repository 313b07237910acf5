use Rattle.std.proofs.Common.{◌≡◌, false, not, take}
use Rattle.std.specs.List.{list_any}
use Rattle.pkg_state.specs.Fault.{is_right}
use Rattle.pkg_state.proofs.judging.judge_all.Given as goal

abbrev pub invariant-loop-package : goal.invariant-loop-package
invariant-loop-package l = list_any (λ p. not (is_right l.packages p)) (take l.package-index l.packages) ≡ false
