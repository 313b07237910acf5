use Rattle.std.proofs.Common.{take}
use Rattle.std.specs.List.{AllByRecursion}
use Rattle.plan_text.specs.Words.{IsBind}
use Rattle.merge_groups.proofs.binding.binds_are.Given as goal

abbrev pub invariant-loop-bind : goal.invariant-loop-bind
invariant-loop-bind l = AllByRecursion IsBind (take l.bind-index l.binds)
