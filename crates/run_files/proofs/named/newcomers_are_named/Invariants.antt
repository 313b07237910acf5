use Rattle.std.proofs.Common.{take}
use Rattle.std.specs.List.{AllByRecursion}
use Rattle.run_files.specs.Made.{IsNamed}
use Rattle.run_files.proofs.named.newcomers_are_named.Given as goal

abbrev pub invariant-loop-newcomer : goal.invariant-loop-newcomer
invariant-loop-newcomer l = AllByRecursion IsNamed (take l.newcomer-index l.newcomers)
