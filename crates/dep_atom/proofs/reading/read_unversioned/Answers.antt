use Rattle.std.proofs.Common.{◌∙◌, sym}
use Rattle.dep_atom.proofs.Named.{name_is}
use Rattle.dep_atom.proofs.reading.read_unversioned.Goals as goal

pub returns-in-Ok-Some-clause-only : goal.returns-in-Ok-Some-clause-only
returns-in-Ok-Some-clause-only c =
    λ n form e.
    let read = rw c.in-Ok-Some.field-0-is at c.in-Ok-Some.ensures in
    name_is c.in-Ok-Some.name n read.0 form (sym read.1 ∙ e)
