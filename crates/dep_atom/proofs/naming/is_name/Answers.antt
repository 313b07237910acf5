use Rattle.dep_atom.proofs.Named.{name_in, package_of}
use Rattle.dep_atom.proofs.naming.is_name.Goals as goal

pub returns-in-Some : goal.returns-in-Some
returns-in-Some c =
    (λ is. name_in c.args.text.now c.in-Some.field-0-0.now c.in-Some.package.now c.in-Some.ensures (c.is_one.ensures.0 is), λ name. c.is_one.ensures.1 (package_of c.args.text.now c.in-Some.field-0-0.now c.in-Some.package.now c.in-Some.ensures name))
