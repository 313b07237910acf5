use Rattle.std.proofs.Common.{◌≡◌, ◌++◌}
use Rattle.config_text.specs.Lines.{lines}
use Rattle.config_text.proofs.Counting.{left}
use Rattle.config_text.proofs.line.lines.Given as goal

abbrev pub invariant-loop-at : goal.invariant-loop-at
invariant-loop-at l = l.lines.items ++ left l.at l.piece-items ≡ lines l.bytes
