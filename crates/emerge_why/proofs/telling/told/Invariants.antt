use Rattle.std.proofs.Common.{string_bytes}
use Rattle.emerge_why.specs.Told.{IsTold}
use Rattle.emerge_why.proofs.telling.told.Given as goal

abbrev pub invariant-loop-line : goal.invariant-loop-line
invariant-loop-line l = IsTold (string_bytes l.text)
