use Rattle.std.proofs.Common.{◌≡◌, ◌++◌, drop, map}
use Rattle.dep_group.specs.Views.{spot}
use Rattle.dep_group.specs.Words.{texts}
use Rattle.md5_cache.proofs.parts.keywords_of.Given as goal

abbrev pub invariant-loop-word : goal.invariant-loop-word
invariant-loop-word l = l.keywords.items ++ texts (map spot (drop l.word-index l.word-items)) ≡ texts (map spot l.word-items)
