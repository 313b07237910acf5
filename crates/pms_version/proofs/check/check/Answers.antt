use Rattle.std.proofs.Common.{◌∙◌, ◌+◌, sym, arith}
use Rattle.pms_version.proofs.Faults.{version_begins_so, begins_before_stop, not_zero}
use Rattle.pms_version.proofs.check.check.Goals as goal

pub returns-in-None-version_stop-2-clause-fault : goal.returns-in-None-version_stop-2-clause-fault
returns-in-None-version_stop-2-clause-fault c = (
  not_zero c.args.bytes.now (sym c.is_empty.ensures ∙ c.if-is_empty.false),
  omega arith,
  c.in-Some.ensures.first.0,
  c.in-Some.ensures.first.1,
  version_begins_so (c.in-Some.start + 1) c.args.bytes.now c.in-None-version_stop-2.ensures.version,
)

pub returns-else-at-start-clause-fault : goal.returns-else-at-start-clause-fault
returns-else-at-start-clause-fault c = (
  not_zero c.args.bytes.now (sym c.is_empty.ensures ∙ c.if-is_empty.false),
  omega arith,
  c.in-Some.ensures.first.0,
  c.in-Some.ensures.first.1,
  begins_before_stop (c.in-Some.start + 1) c.in-Some-version_stop-2.at c.args.bytes.now (omega arith) c.in-Some-version_stop-2.ensures.stop,
)
