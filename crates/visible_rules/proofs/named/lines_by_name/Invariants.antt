use Rattle.std.proofs.Common.{take}
use Rattle.visible_rules.specs.Index.{AreUnder, is_line_of}
use Rattle.visible_rules.proofs.named.lines_by_name.Given as goal

abbrev pub invariant-loop-line : goal.invariant-loop-line
invariant-loop-line l = AreUnder is_line_of (take l.line-index l.lines) l.named.lists
