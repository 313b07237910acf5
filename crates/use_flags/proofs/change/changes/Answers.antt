use Rattle.std.proofs.Common.{subst}
use Rattle.use_flags.specs.Changes.{IsChange}
use Rattle.use_flags.specs.Words.{IsFirstBad}
use Rattle.use_flags.proofs.Cuts.{no_bad_word}
use Rattle.use_flags.proofs.Next.{first_bad}
use Rattle.use_flags.proofs.change.changes.Goals as goal

pub returns-in_default-2-clause-only : goal.returns-in_default-2-clause-only
returns-in_default-2-clause-only c =
    λ all.
    let bytes = c.as_bytes-bytes.result.now in
    let bad = rw c.in_default-2.is at c.in_ok-change.ensures in
    absurd (no_bad_word IsChange bytes c.in-Some.word.at (rw c.as_bytes-bytes.ensures.value all) (first_bad IsChange bytes c.loop-word.from c.in-Some.word.at c.in-Some.word.bytes.now c.in-Some.ensures c.loop-word.invariant.good bad))

pub returns-in_default-2-clause-fault : goal.returns-in_default-2-clause-fault
returns-in_default-2-clause-fault c =
    let bytes = c.as_bytes-bytes.result.now in
    let bad = rw c.in_default-2.is at c.in_ok-change.ensures in
    subst (λ b. IsFirstBad IsChange b c.in-Some.word.at) c.as_bytes-bytes.ensures.value (first_bad IsChange bytes c.loop-word.from c.in-Some.word.at c.in-Some.word.bytes.now c.in-Some.ensures c.loop-word.invariant.good bad)
