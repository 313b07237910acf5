use Rattle.std.proofs.Common.{◌++◌, List, ℕ, take}
use Rattle.visible_rules.specs.Heard.{Remembers}
use Rattle.visible_rules.proofs.said.Said.hear_all.Given as goal

abbrev pub invariant-loop-word : goal.invariant-loop-word
invariant-loop-word l = (before : List (List ℕ)) → Remembers l.fn.self before → Remembers l.self (before ++ take l.word-index l.words)
