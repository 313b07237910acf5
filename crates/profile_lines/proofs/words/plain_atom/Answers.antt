use Rattle.std.proofs.Common.{inr, refl}
use Rattle.profile_lines.proofs.WordLemmas.{blocked, refused, untrue}
use Rattle.profile_lines.proofs.words.plain_atom.Goals as goal

pub returns-in-Ok-2-clause-fault : goal.returns-in-Ok-2-clause-fault
returns-in-Ok-2-clause-fault c = inr (refl, blocked c.args.word.now c.in-Ok.atom c.in-Ok.ensures.only (λ plain. untrue c.is_unblocked.result c.if-is_unblocked.false (c.is_unblocked.ensures.1 plain)))

pub returns-in-Err-clause-fault : goal.returns-in-Err-clause-fault
returns-in-Err-clause-fault c = refused c.args.word.now c.in-Err.fault c.no_atom.result c.in-Err.ensures.only c.no_atom.ensures
