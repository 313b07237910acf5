use Rattle.std.proofs.Common.{◌≡◌, ◌∙◌, ap, arith, take, ◌+◌, List}
use Rattle.std.specs.BTreeSet.{contains}
use Rattle.std.specs.Ordering.{nat_cmp}
use Rattle.std.proofs.lemmas.List.{take_all}
use Rattle.merge_record.specs.declared.record.OwnerKey.{OwnerKey}
use Rattle.owner_book.specs.Rules.{is_dying}
use Rattle.owner_book.proofs.Keys.{dying_more, dying_step}
use Rattle.owner_book.proofs.dying.Dying.of.Goals as goal

pub loop-key-preserved : goal.loop-key-preserved
loop-key-preserved c = λ k.
    dying_step _ k.number (is_dying (take c.loop-key.key-index c.args.keys.now) k) (is_dying (take (c.loop-key.key-index + 1) c.args.keys.now) k)
    (contains nat_cmp c.loop-key.numbers k.number) (contains nat_cmp c.insert.new.self k.number)
    (c.loop-key.invariant k) (c.in_ok-insert.ensures.updates.0 k.number)
    (dying_more c.args.keys.now c.loop-key.key-index (record { number = 0 }) k (omega (arith, c.loop-key-test.true)))

pub returns : goal.returns
returns c =
    let at : (k : OwnerKey) → contains nat_cmp c.loop-key.numbers k.number ≡ is_dying c.args.keys.now k =
    λ k. c.loop-key.invariant k ∙ ap (λ (l : List OwnerKey). is_dying l k) (take_all c.loop-key.key-index c.args.keys.now (omega (arith, c.loop-key-test.false))) in
    λ i k. at k i
