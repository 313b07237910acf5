use Rattle.std.proofs.Common.{take}
use Rattle.std.specs.List.{AllByRecursion}
use Rattle.config_vars.specs.Judged.{IsGoodFile}
use Rattle.config_vars.specs.Values.{expanded}
use Rattle.config_vars.proofs.verdict.judge.Given as goal

abbrev pub invariant-loop-file : goal.invariant-loop-file
invariant-loop-file l = AllByRecursion (IsGoodFile (expanded l.files)) (take l.file-index l.files)
