-- The lines so far say the entries so far.
use Rattle.std.proofs.Common.{take}
use Rattle.profile_lines.specs.Items.{AreEntries}
use Rattle.profile_lines.proofs.entries.read_entries.Given as goal

abbrev pub invariant-loop-line : goal.invariant-loop-line
invariant-loop-line l = AreEntries l.form (take l.line-index l.lines) l.entries.items
