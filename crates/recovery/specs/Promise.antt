-- What recovery promises.
use Rattle.std.specs.Prelude.{◌≡◌, ⊤, Err}
use Rattle.file_tree.specs.Disk.{Map}
use Rattle.merge_journal.specs.Judging.{judged_open}
use Rattle.merge_journal.specs.Recovered.{IsRecovered}
use Rattle.merge_journal.specs.declared.fault.JudgeFault.TheVariants as judge_faults
use Rattle.recovery.specs.Found.{HasTooManyGates}
use Rattle.recovery.specs.declared.fault.RecoverFault.{RecoverFault}
use Rattle.recovery.specs.declared.fault.RecoverFault.TheVariants as faults

-- recovery makes m of the map, which has no more gates than it takes
abbrev pub RecoversTo : Map → Map → Type 0
RecoversTo c m = IsRecovered c m × ¬ HasTooManyGates c

-- recovery makes the same of both maps
abbrev pub RecoversAlike : Map → Map → Type 0
RecoversAlike a c = (m : Map) × RecoversTo a m × RecoversTo c m

-- the fault is one of the map: too many gates, or else the first fault of its open groups; the
-- tree's own may come with any map
abbrev pub IsFaultOf : RecoverFault → Map → Type 0
IsFaultOf faults.Limit m = HasTooManyGates m
IsFaultOf (faults.BadRecord g) m =
    ¬ HasTooManyGates m × (judged_open m ≡ Err (judge_faults.BadRecord g))
IsFaultOf (faults.BadStage g i) m =
    ¬ HasTooManyGates m × (judged_open m ≡ Err (judge_faults.BadStage g i))
IsFaultOf (faults.Tree of) m = ⊤

-- a fault that comes before anything is changed
abbrev pub IsRefusal : RecoverFault → Type 0
IsRefusal (faults.Tree of) = ⊥
IsRefusal fault = ⊤
