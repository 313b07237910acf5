use Rattle.std.proofs.Common.{◌∙◌, sym}
use Rattle.std.proofs.lemmas.Bool.{false≢true}
use Rattle.md5_cache.proofs.FieldLemmas.{bad_here, good_from, good_next, good_to}
use Rattle.md5_cache.proofs.field.first_bad.Goals as goal

pub returns-then-not-branch : goal.returns-then-not-branch
returns-then-not-branch c =
    bad_here c.args.edition c.args.pairs.now c.loop-pair.pair-index _ c.pair-item.result c.loop-pair-test.true c.pair-item.is c.loop-pair.invariant
    (λ good. false≢true (sym c.if-not-branch.true ∙ c.in_ok-is_in_form.ensures.1 (good_to c.args.edition c.pair-item.result c.field_of-field.result c.as_str.result.now c.as_str-in-loop-pair.result.now c.field_of-field.ensures c.as_str.ensures c.as_str-in-loop-pair.ensures good)))

pub loop-pair-preserved : goal.loop-pair-preserved
loop-pair-preserved c =
    good_next c.args.edition c.args.pairs.now c.loop-pair.pair-index _ c.pair-item.result c.loop-pair-test.true c.pair-item.is c.loop-pair.invariant
    (good_from c.args.edition c.pair-item.result c.field_of-field.result c.as_str.result.now c.as_str-in-loop-pair.result.now c.field_of-field.ensures c.as_str.ensures c.as_str-in-loop-pair.ensures (c.in_ok-is_in_form.ensures.0 c.if-not-branch.false))
