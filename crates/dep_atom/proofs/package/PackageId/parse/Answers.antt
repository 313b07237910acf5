use Rattle.std.proofs.Common.{◌∙◌, sym, subst}
use Rattle.dep_atom.specs.Ids.{FirstIdFault}
use Rattle.dep_atom.specs.Naming.{IsReadableText, PackageThen}
use Rattle.dep_atom.proofs.Joined.{id_same}
use Rattle.dep_atom.proofs.Named.{joined_once}
use Rattle.dep_atom.proofs.OneId.{id_fault, versioned}
use Rattle.dep_atom.proofs.package.PackageId.parse.Goals as goal

pub returns-in-Ok-Some-clause-only : goal.returns-in-Ok-Some-clause-only
returns-in-Ok-Some-clause-only c =
    λ id is category pf.
    let read = rw c.in-Ok-Some.field-0-is at c.in-Ok-Some.ensures in
    let once = joined_once _ id.name.«package» _ id.version read.1 is.version (sym read.2 ∙ c.as_bytes-pf.ensures.value ∙ pf) in
    id_same _ _ _ id (c.in-Ok.ensures.found ∙ category) once.0 once.1

pub returns-in-Ok-None-clause-only : goal.returns-in-Ok-None-clause-only
returns-in-Ok-None-clause-only c =
    λ id is category pf.
    let none = rw c.in-Ok-None.field-0-is at c.in-Ok-None.ensures in
    absurd (none (subst (λ l. PackageThen IsReadableText l) (sym c.as_bytes-pf.ensures.value) (versioned c.args.pf.now id is pf)))

pub returns-in-Ok-None-clause-fault : goal.returns-in-Ok-None-clause-fault
returns-in-Ok-None-clause-fault c =
    subst (λ l. FirstIdFault c.args.category.now l c.package_fault.result) c.as_bytes-pf.ensures.value (id_fault c.args.category.now c.as_bytes-pf.result.now c.package_fault.result c.in-Ok.ensures.name c.package_fault.ensures)
