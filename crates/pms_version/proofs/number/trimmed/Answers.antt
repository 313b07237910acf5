use Rattle.std.proofs.Common.{arith}
use Rattle.pms_version.proofs.Trim.{trim_step, trim_done, trim_all}
use Rattle.pms_version.proofs.number.trimmed.Goals as goal
use Rattle.pms_version.proofs.number.trimmed.Goals.{then-loop-end-test+else-digits-end-eq48, else-loop-end-test}

pub loop-end-preserved : goal.loop-end-preserved
loop-end-preserved c =
    record { in_range = omega arith; same = trim_step c.args.digits.now c.loop-end.end (omega arith) (omega arith) c.if-digits-end-eq48.true c.loop-end.invariant.same }

pub returns : goal.returns
returns c = elim c.loop-end-test.branch [
  | then-loop-end-test+else-digits-end-eq48 w ↦ trim_done c.args.digits.now c.loop-end.end (omega arith) (omega arith) w.if-digits-end-eq48.false c.loop-end.invariant.same
  | else-loop-end-test w ↦ trim_all c.args.digits.now c.loop-end.end (omega arith) c.loop-end.invariant.same
]
