use Rattle.std.proofs.Common.{◌≡◌, true, subst, inr, sym, ap, take, ◌∙◌, ◌||◌, cond, bytes_eq}
use Rattle.std.proofs.lemmas.Bool.{both_ways, OnTrue_at}
use Rattle.use_flags.specs.Items.{flag_of, is_on, IsItem}
use Rattle.use_flags.specs.Words.{IsFirstBad, words}
use Rattle.use_flags.proofs.Cuts.{no_bad_word, all_good-more}
use Rattle.use_flags.proofs.More.{names_flag-more, last_is_on-more}
use Rattle.use_flags.proofs.Next.{first_bad}
use Rattle.use_flags.proofs.iuse.Iuse.parse.Goals as goal

pub returns-then-not-branch-clause-only : goal.returns-then-not-branch-clause-only
returns-then-not-branch-clause-only c =
    λ all.
    let bytes = c.as_bytes-bytes.result.now in
    let bad : IsItem c.in-Some.word.bytes.now → ⊥ = λ item. both_ways _ c.if-not-branch.true (c.in_ok-add_item.ensures.item.1 item) in
    absurd (no_bad_word IsItem bytes c.in-Some.word.at (rw c.as_bytes-bytes.ensures.value all) (first_bad IsItem bytes c.loop-word.from c.in-Some.word.at c.in-Some.word.bytes.now c.in-Some.ensures c.loop-word.invariant.items bad))

pub returns-then-not-branch-clause-fault : goal.returns-then-not-branch-clause-fault
returns-then-not-branch-clause-fault c =
    let bytes = c.as_bytes-bytes.result.now in
    let bad : IsItem c.in-Some.word.bytes.now → ⊥ = λ item. both_ways _ c.if-not-branch.true (c.in_ok-add_item.ensures.item.1 item) in
    subst (λ b. IsFirstBad IsItem b c.in-Some.word.at) c.as_bytes-bytes.ensures.value (first_bad IsItem bytes c.loop-word.from c.in-Some.word.at c.in-Some.word.bytes.now c.in-Some.ensures c.loop-word.invariant.items bad)

pub loop-word-preserved : goal.loop-word-preserved
loop-word-preserved c =
    let next = c.in-Some.ensures in
    let was = c.loop-word.invariant in
    let word = c.in-Some.word.bytes.now in
    let before = words (take c.loop-word.from c.as_bytes-bytes.result.now) in
    let added : c.in_ok-add_item.field-0 ≡ true = c.if-not-branch.false in
    let flags = OnTrue_at added c.in_ok-add_item.ensures.flags in
    let on = OnTrue_at added c.in_ok-add_item.ensures.on in
    record {
      within = next.within;
      apart = inr next.stands.right;
      flags = λ q. rw next.more (flags q ∙ (ap (λ b. bytes_eq q (flag_of word) || b) (was.flags q) ∙ sym (names_flag-more before word q)));
      on = λ q. rw next.more (on q ∙ (ap (λ b. cond (bytes_eq q (flag_of word)) (is_on word) b) (was.on q) ∙ sym (last_is_on-more before word q)));
      items = rw next.more (all_good-more IsItem before word was.items (c.in_ok-add_item.ensures.item.0 added));
    }
