use Rattle.std.proofs.Common.{◌≡◌, ◌++◌, drop, map}
use Rattle.std.specs.List.{flat_map}
use Rattle.visible_offers.specs.Words.{flag_words, words_in}
use Rattle.visible_offers.proofs.words.flag_words.Given as goal

abbrev pub invariant-loop-file : goal.invariant-loop-file
invariant-loop-file l = l.said.items ++ flat_map (words_in (map (λ x. x.now) l.variables)) (drop l.file-index l.files) ≡ flag_words (map (λ x. x.now) l.variables) l.files
