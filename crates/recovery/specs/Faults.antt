-- The faults of the judge, as recovery tells them.
use Rattle.merge_journal.specs.declared.fault.JudgeFault.{JudgeFault}
use Rattle.merge_journal.specs.declared.fault.JudgeFault.TheVariants as judge_faults
use Rattle.recovery.specs.declared.fault.RecoverFault.{RecoverFault}
use Rattle.recovery.specs.declared.fault.RecoverFault.TheVariants as faults

-- the verdict on a group, or the tree's fault, is carried over
abbrev pub judge_fault : JudgeFault → RecoverFault
judge_fault (judge_faults.BadRecord g) = faults.BadRecord g
judge_fault (judge_faults.BadStage g i) = faults.BadStage g i
judge_fault (judge_faults.Tree of) = faults.Tree of
