use Rattle.std.proofs.Common.{inr, refl, subst, sym}
use Rattle.dep_group.proofs.WordLemmas.{each_at}
use Rattle.profile_folders.proofs.Followed.{none_of}
use Rattle.use_flags.specs.Changes.{IsChange}
use Rattle.profile_lines.proofs.words.changes_of.Goals as goal

pub returns-in_default-clause-fault : goal.returns-in_default-clause-fault
returns-in_default-clause-fault c = inr (refl, λ all. none_of c.in_ok-change.field-0 _ _ c.in_default.is c.in_ok-change.ensures (subst IsChange (sym c.as_bytes.ensures.value) (each_at IsChange c.args.words.now c.loop-word.word-index _ c.loop-word-test.true all)))
