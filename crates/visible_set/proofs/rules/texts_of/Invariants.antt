use Rattle.std.proofs.Common.{◌≡◌, ◌++◌, drop, map}
use Rattle.visible_set.proofs.rules.texts_of.Given as goal

abbrev pub invariant-loop-word : goal.invariant-loop-word
invariant-loop-word l = l.texts.items ++ map (λ x. x.now) (drop l.word-index l.words) ≡ map (λ x. x.now) l.words
