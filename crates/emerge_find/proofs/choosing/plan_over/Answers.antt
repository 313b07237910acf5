use Rattle.std.proofs.Common.{List, refl, subst, sym}
use Rattle.vdb_law.specs.Packages.{Installed}
use Rattle.emerge_find.specs.Choices.{choices_of}
use Rattle.emerge_find.specs.Sources.{Ends, IsUnmade}
use Rattle.emerge_find.specs.declared.ends.NoPlan.{NoPlan}
use Rattle.emerge_find.proofs.Barred.{of_source}
use Rattle.emerge_find.proofs.choosing.plan_over.Goals as goal

pub returns-in-Err-clause-refused : goal.returns-in-Err-clause-refused
returns-in-Err-clause-refused c =
    let o = c.args.offers in
    let packages = c.args.opening.packages in
    let source = c.args.source in
    let fault = c.in-Err.fault in
    let k = choices_of o.implicit packages.items o.candidates.items o.hidden.items in
    let why = subst (λ (ps : List Installed). IsUnmade (choices_of o.implicit ps o.candidates.items o.hidden.items) source fault) c.deref.ensures.value c.in-Err.ensures.fault in
    subst (λ (e : NoPlan). Ends k source e) (sym c.end_of.ensures) (of_source k packages refl source fault why)
