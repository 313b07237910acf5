use Rattle.std.proofs.Common.{◌∙◌, ap, inl, inr, sym}
use Rattle.merge_report.specs.Last.{unwritten}
use Rattle.merge_report.proofs.Last.{unwritten_other}
use Rattle.merge_report.proofs.ending.unwritten.Goals as goal
use Rattle.merge_report.proofs.ending.unwritten.Goals.{in-DeviceFault, in_default}

pub returns-clause-is : goal.returns-clause-is
returns-clause-is c = elim c.match-status.branch [
  | in-DeviceFault w ↦ w.result-is ∙ sym (ap unwritten w.in-DeviceFault.is)
  | in_default w ↦ w.result-is ∙ sym (unwritten_other c.args.status w.in_default.not-DeviceFault)
]

pub returns-clause-cases : goal.returns-clause-cases
returns-clause-cases c = elim c.match-status.branch [
  | in-DeviceFault w ↦ inl (w.result-is ∙ sym w.in-DeviceFault.is)
  | in_default w ↦ inr w.result-is
]

pub returns-clause-device : goal.returns-clause-device
returns-clause-device c e = elim c.match-status.branch [
  | in-DeviceFault w ↦ w.result-is
  | in_default w ↦ absurd (w.in_default.not-DeviceFault e)
]
