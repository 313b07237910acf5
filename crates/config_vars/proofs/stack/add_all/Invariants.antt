use Rattle.std.proofs.Common.{◌≡◌, map, take}
use Rattle.std.specs.Prelude.{fold}
use Rattle.dep_group.specs.Views.{spot}
use Rattle.dep_group.specs.Words.{texts}
use Rattle.config_vars.specs.Values.{with_word}
use Rattle.config_vars.proofs.Stacking.{told}
use Rattle.config_vars.proofs.stack.add_all.Given as goal

abbrev pub invariant-loop-word : goal.invariant-loop-word
invariant-loop-word l = told l.since.items ≡ fold with_word (told l.fn.since.items) (texts (map spot (take l.word-index l.words)))
