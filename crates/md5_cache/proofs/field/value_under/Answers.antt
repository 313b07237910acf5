use Rattle.std.proofs.Common.{◌∙◌, List, Some, ap, sym, ℕ}
use Rattle.std.specs.Prelude.{bytes_eq}
use Rattle.md5_cache.proofs.FieldLemmas.{value_here, value_next, value_none}
use Rattle.md5_cache.proofs.field.value_under.Goals as goal

pub returns-then-eq : goal.returns-then-eq
returns-then-eq c =
    value_here c.args.pairs.now c.loop-pair.pair-index _ c.pair-item.result c.args.key.now c.loop-pair-test.true c.pair-item.is c.loop-pair.invariant
    (ap (λ (k : List ℕ). bytes_eq k c.args.key.now) (sym c.as_str.ensures) ∙ sym c.if-eq.ensures)
    ∙ ap (λ (v : List ℕ). Some v) (sym c.as_str-then-eq.ensures)

pub loop-pair-preserved : goal.loop-pair-preserved
loop-pair-preserved c =
    value_next c.args.pairs.now c.loop-pair.pair-index _ c.pair-item.result c.args.key.now c.loop-pair-test.true c.pair-item.is c.loop-pair.invariant
    (ap (λ (k : List ℕ). bytes_eq k c.args.key.now) (sym c.as_str.ensures) ∙ sym c.if-eq.ensures)

pub returns : goal.returns
returns c = value_none c.args.pairs.now c.loop-pair.pair-index c.args.key.now c.loop-pair-test.false c.loop-pair.invariant
