use Rattle.dep_atom.proofs.Named.{package_of}
use Rattle.dep_atom.proofs.naming.read_name.Goals as goal

pub returns-in_default-3 : goal.returns-in_default-3
returns-in_default-3 c =
    λ name.
    let none = rw c.in_default-3.is at c.in_ok-package.ensures in
    none (package_of c.args.text.now c.in-Some.category.now c.in-Some.package.now c.in-Some.ensures name)
