use Rattle.std.proofs.Common.{map, take}
use Rattle.std.specs.List.{AllByRecursion}
use Rattle.dep_group.specs.Views.{spot}
use Rattle.dep_group.specs.Words.{texts}
use Rattle.config_vars.specs.Judged.{IsItemOf}
use Rattle.config_vars.proofs.grammar.are_each_item.Given as goal

abbrev pub invariant-loop-word : goal.invariant-loop-word
invariant-loop-word l = AllByRecursion (IsItemOf l.variable) (texts (map spot (take l.word-index l.words)))
