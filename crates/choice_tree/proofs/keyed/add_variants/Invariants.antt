use Rattle.std.proofs.Common.{take}
use Rattle.std.specs.List.{list_any}
use Rattle.choice_tree.specs.Keys.{HasCome, has_key}
use Rattle.choice_tree.proofs.keyed.add_variants.Given as goal

abbrev pub invariant-loop-owner : goal.invariant-loop-owner
invariant-loop-owner l = HasCome l.line (λ text. list_any (has_key l.key text) (take l.owner-index l.variants)) l.fn.lists l.lists
