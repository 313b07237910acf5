use Rattle.std.proofs.Common.{◌∙◌, ◌++◌, ◌∷◌, [], List, ℕ, ap, subst, sym}
use Rattle.md5_cache.specs.Seen.{HasSeen, has_seen}
use Rattle.md5_cache.proofs.Keys.{repeated_at, seen_next}
use Rattle.md5_cache.proofs.repeated.first_repeated.Goals as goal

pub returns-then-has_seen : goal.returns-then-has_seen
returns-then-has_seen c =
    repeated_at c.args.pairs.now c.loop-pair.pair-index _ c.pair-item.result c.loop-pair.seen c.loop-pair-test.true c.pair-item.is c.loop-pair.invariant
    (ap (has_seen c.loop-pair.seen) (sym c.as_str.ensures) ∙ sym c.if-has_seen.ensures)

pub loop-pair-preserved : goal.loop-pair-preserved
loop-pair-preserved c =
    seen_next c.args.pairs.now c.loop-pair.pair-index _ c.pair-item.result c.loop-pair.seen c.see.new.seen c.loop-pair-test.true c.pair-item.is c.loop-pair.invariant
    (ap (has_seen c.loop-pair.seen) (sym c.as_str.ensures) ∙ sym c.if-has_seen.ensures)
    (λ keys h. subst (λ (k : List ℕ). HasSeen c.see.new.seen (keys ++ (k ∷ []))) c.as_str-in-loop-pair.ensures (c.in_ok-see.ensures keys h))
