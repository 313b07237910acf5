use Rattle.std.proofs.Common.{◌≡◌, ◌++◌, drop, map}
use Rattle.config_vars.specs.Values.{flag_of}
use Rattle.visible_offers.proofs.implicit.add_each.Given as goal

abbrev pub invariant-loop-word : goal.invariant-loop-word
invariant-loop-word l = l.texts.items ++ map (flag_of l.variable) (map (λ x. x.now) (drop l.word-index l.words)) ≡ l.fn.texts.items ++ map (flag_of l.variable) (map (λ x. x.now) l.words)
