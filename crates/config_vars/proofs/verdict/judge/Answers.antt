use Rattle.std.proofs.Common.{◌∙◌, ap}
use Rattle.profile_folders.proofs.Followed.{some_of}
use Rattle.config_vars.specs.Values.{expanded}
use Rattle.config_vars.proofs.Judging.{bad_file, none_bad}
use Rattle.config_vars.proofs.Stacking.{told}
use Rattle.config_vars.proofs.verdict.judge.Goals as goal

pub returns-in-Some-clause-only : goal.returns-in-Some-clause-only
returns-in-Some-clause-only c good =
    absurd (none_bad _ _ _ _
    (bad_file (expanded c.args.files.now) (told c.deref.result.now) c.args.files.now c.loop-file.file-index c.file-item.result c.in_ok-path.path c.in-Some.line (ap told c.deref.ensures.value ∙ c.in_ok-variables.ensures) c.in_ok-path.ensures c.loop-file-test.true c.file-item.is c.loop-file.invariant (some_of c.in_ok-line.field-0 _ _ c.in-Some.line c.in-Some.is c.in_ok-line.ensures))
    good)

pub returns-in-Some-clause-fault : goal.returns-in-Some-clause-fault
returns-in-Some-clause-fault c =
    bad_file (expanded c.args.files.now) (told c.deref.result.now) c.args.files.now c.loop-file.file-index c.file-item.result c.in_ok-path.path c.in-Some.line (ap told c.deref.ensures.value ∙ c.in_ok-variables.ensures) c.in_ok-path.ensures c.loop-file-test.true c.file-item.is c.loop-file.invariant (some_of c.in_ok-line.field-0 _ _ c.in-Some.line c.in-Some.is c.in_ok-line.ensures)
