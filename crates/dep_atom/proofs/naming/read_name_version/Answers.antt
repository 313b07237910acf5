use Rattle.dep_atom.specs.Naming.{IsReadableText}
use Rattle.dep_atom.proofs.Named.{then_of}
use Rattle.dep_atom.proofs.naming.read_name_version.Goals as goal

pub returns-in_default-3 : goal.returns-in_default-3
returns-in_default-3 c =
    λ t.
    let none = rw c.in_default-3.is at c.in_ok-package.ensures in
    none (then_of IsReadableText c.args.text.now c.in-Some.category.now c.in-Some.rest.now c.in-Some.ensures t)
