-- The words so far are the changes so far.
use Rattle.std.proofs.Common.{map, take}
use Rattle.dep_group.specs.Views.{spot}
use Rattle.dep_group.specs.Words.{texts}
use Rattle.profile_lines.specs.Items.{AreChanges}
use Rattle.profile_lines.proofs.words.changes_of.Given as goal

abbrev pub invariant-loop-word : goal.invariant-loop-word
invariant-loop-word l = AreChanges (texts (map spot (take l.word-index l.words))) l.changes.items
