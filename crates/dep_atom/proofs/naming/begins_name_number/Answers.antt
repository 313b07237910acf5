use Rattle.dep_atom.specs.Naming.{BeginsNumber}
use Rattle.dep_atom.proofs.Named.{then_in, then_of}
use Rattle.dep_atom.proofs.naming.begins_name_number.Goals as goal

pub returns-in-Some : goal.returns-in-Some
returns-in-Some c =
    (λ is. then_in BeginsNumber c.args.text.now c.in-Some.field-0-0.now c.in-Some.rest.now c.in-Some.ensures (c.begins_package_number.ensures.0 is), λ t. c.begins_package_number.ensures.1 (then_of BeginsNumber c.args.text.now c.in-Some.field-0-0.now c.in-Some.rest.now c.in-Some.ensures t))
