use Rattle.std.proofs.Common.{◌≡◌, ◌++◌, drop, map}
use Rattle.dep_group.specs.Views.{spot}
use Rattle.dep_group.specs.Words.{texts}
use Rattle.visible_offers.specs.Words.{flag_word}
use Rattle.visible_offers.proofs.words.add_all.Given as goal

abbrev pub invariant-loop-word : goal.invariant-loop-word
invariant-loop-word l = l.said.items ++ map (flag_word l.prefix) (texts (map spot (drop l.word-index l.words))) ≡ l.fn.said.items ++ map (flag_word l.prefix) (texts (map spot l.words))
