use Rattle.pms_grammar.specs.Grammar.{IsVersionText}
use Rattle.dep_atom.proofs.Named.{then_in, then_of}
use Rattle.dep_atom.proofs.naming.is_name_version.Goals as goal

pub returns-in-Some : goal.returns-in-Some
returns-in-Some c =
    (λ is. then_in IsVersionText c.args.text.now c.in-Some.field-0-0.now c.in-Some.rest.now c.in-Some.ensures (c.is_package_version.ensures.0 is), λ t. c.is_package_version.ensures.1 (then_of IsVersionText c.args.text.now c.in-Some.field-0-0.now c.in-Some.rest.now c.in-Some.ensures t))
