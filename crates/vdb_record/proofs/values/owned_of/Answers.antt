use Rattle.std.proofs.Common.{List, ℕ, sym, subst}
use Rattle.vdb_contents.specs.Contents.{TellsOwned}
use Rattle.vdb_record.proofs.Files.{no_line}
use Rattle.vdb_record.proofs.values.owned_of.Goals as goal

pub returns-in-Ok-clause-only : goal.returns-in-Ok-clause-only
returns-in-Ok-clause-only c owned tells = c.in-Ok.ensures.only owned (subst (λ (t : List ℕ). TellsOwned t owned) (sym c.value.ensures) tells)

pub returns-in-Err-Line-clause-only : goal.returns-in-Err-Line-clause-only
returns-in-Err-Line-clause-only c owned tells =
    absurd (no_line c.in-Err-Line.field-0 c.in-Err-Line.number c.in-Err-Line.field-0-is (c.in-Err-Line.ensures.only owned (subst (λ (t : List ℕ). TellsOwned t owned) (sym c.value.ensures) tells)))
