use Rattle.std.proofs.Common.{string_bytes, subst, sym}
use Rattle.emerge_why.specs.Told.{IsTold}
use Rattle.emerge_why.proofs.Lines.{told_shown}
use Rattle.emerge_why.proofs.telling.told.Goals as goal

pub loop-line-preserved : goal.loop-line-preserved
loop-line-preserved c =
    subst IsTold (sym c.in_ok-push_line.ensures) (told_shown (string_bytes c.loop-line.text) c.as_str.result.now c.loop-line.invariant)
