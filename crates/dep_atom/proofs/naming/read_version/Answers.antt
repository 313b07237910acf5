use Rattle.std.proofs.lemmas.Str.{IsUtf8-from_ascii}
use Rattle.pms_grammar.specs.Grammar.{spelling}
use Rattle.dep_atom.proofs.Plain.{plain_version, plain-ascii}
use Rattle.dep_atom.proofs.naming.read_version.Goals as goal

pub returns-in_default : goal.returns-in_default
returns-in_default c = λ r. absurd (c.in_default.ensures.cases.0 (rw r.2 (IsUtf8-from_ascii (spelling r.0) (plain-ascii (spelling r.0) (plain_version r.0 r.1.version)))))
