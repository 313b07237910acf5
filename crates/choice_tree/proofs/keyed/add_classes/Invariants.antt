use Rattle.std.proofs.Common.{take}
use Rattle.std.specs.List.{list_any}
use Rattle.choice_tree.specs.Keys.{HasCome, names_in}
use Rattle.choice_tree.proofs.keyed.add_classes.Given as goal

abbrev pub invariant-loop-class : goal.invariant-loop-class
invariant-loop-class l = HasCome l.line (λ text. list_any (names_in text l.owner) (take l.class-index l.class-items)) l.fn.lists l.lists
