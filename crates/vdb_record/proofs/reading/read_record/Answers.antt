use Rattle.vdb_record.specs.Views.{texts_in}
use Rattle.vdb_record.proofs.Record.{file_fault, none_missing, not_supported, unsupported}
use Rattle.vdb_record.proofs.reading.read_record.Goals as goal

pub returns-in-Some-clause-only : goal.returns-in-Some-clause-only
returns-in-Some-clause-only c q tell = absurd (none_missing (texts_in c.args.texts.now) _ c.args.id q (rw c.in-Some.is at c.missing.ensures) tell)

pub returns-in-Some-2-clause-fault : goal.returns-in-Some-2-clause-fault
returns-in-Some-2-clause-fault c =
    file_fault (texts_in c.args.texts.now) c.in-Some-2.edition c.read_files.result (rw c.in_default.is at c.missing.ensures) (rw c.in-Some-2.is at c.in_ok-edition.ensures) c.read_files.ensures.fault

pub returns-in-None-clause-only : goal.returns-in-None-clause-only
returns-in-None-clause-only c q tell = absurd (unsupported (texts_in c.args.texts.now) c.args.id q (rw c.in-None.is at c.in_ok-edition.ensures) tell)

pub returns-in-None-clause-fault : goal.returns-in-None-clause-fault
returns-in-None-clause-fault c =
    (rw c.in_default.is at c.missing.ensures, not_supported (texts_in c.args.texts.now) (rw c.in-None.is at c.in_ok-edition.ensures))
