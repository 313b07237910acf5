-- The text and the words that are left come to all of them.
use Rattle.std.proofs.Common.{◌≡◌, drop, map}
use Rattle.std.specs.Prelude.{string_bytes}
use Rattle.dep_group.specs.Views.{spot}
use Rattle.dep_group.specs.Words.{spaced_after, texts}
use Rattle.profile_lines.proofs.words.spaced.Given as goal

abbrev pub invariant-loop-word : goal.invariant-loop-word
invariant-loop-word l = spaced_after (string_bytes l.text) (texts (map spot (drop l.word-index l.others))) ≡ spaced_after l.first (texts (map spot l.others))
