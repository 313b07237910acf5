use Rattle.dep_atom.specs.Values.{atom_value}
use Rattle.profile_lines.proofs.WordLemmas.{blocked, untrue}
use Rattle.world_text.proofs.world.plain_atom.Goals as goal

pub returns-in-Ok-2 : goal.returns-in-Ok-2
returns-in-Ok-2 c = blocked c.args.word.now c.in-Ok.atom c.in-Ok.ensures.only (λ plain. untrue c.is_unblocked.result c.if-is_unblocked.false (c.is_unblocked.ensures.1 plain))

pub returns-in-Err-2 : goal.returns-in-Err-2
returns-in-Err-2 c = λ atom plain. untrue c.is_want.result c.if-is_want.false (c.is_want.ensures.1 (c.in-Err.ensures.only (atom_value atom) plain.form plain.spelled))
