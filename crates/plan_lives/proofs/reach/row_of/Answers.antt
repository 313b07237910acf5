use Rattle.std.proofs.Common.{◌∷◌, ◌∙◌, ◌+◌, ◌||◌, length, map, get_or, drop, ap, sym, drop-cons, add-one}
use Rattle.plan_lives.specs.Reaching.{has_bit, some_row}
use Rattle.plan_lives.proofs.Places.{row_at}
use Rattle.plan_lives.proofs.RowBits.{shuffled}
use Rattle.plan_lives.proofs.reach.row_of.Goals as goal

pub join-requires : goal.join-requires
join-requires c =
    let within = c.requires.after c.loop-h.h-index c.loop-h-test.true in
    let e = row_at c.args.rows.now (get_or c.args.after.now c.loop-h.h-index 0) c.index-rows-h.result c.deref.result.now within c.index-rows-h.is c.deref.ensures.value in
    c.loop-h.invariant.0 ∙ (sym (c.requires.wide (get_or c.args.after.now c.loop-h.h-index 0) within) ∙ ap length e)

pub loop-h-preserved : goal.loop-h-preserved
loop-h-preserved c =
    let h = get_or c.args.after.now c.loop-h.h-index 0 in
    let within = c.requires.after c.loop-h.h-index c.loop-h-test.true in
    let e = row_at c.args.rows.now h c.index-rows-h.result c.deref.result.now within c.index-rows-h.is c.deref.ensures.value in
    let rows = map (λ v. v.items) c.args.rows.now in (
      c.join.ensures.length ∙ c.loop-h.invariant.0,
      λ k.
          let left = some_row rows (drop (c.loop-h.h-index + 1) c.args.after.now) k in
          let old = has_bit c.loop-h.row.items k in
          ap (λ b. left || b) (c.join.ensures.bits k)
          ∙ (shuffled left old (has_bit c.deref.result.now k)
          ∙ (ap (λ ws. (has_bit ws k || left) || old) (sym e)
          ∙ (ap (λ hs. some_row rows hs k || old) (sym (drop-cons c.args.after.now c.loop-h.h-index 0 c.loop-h-test.true ∙ ap (λ n. h ∷ drop n c.args.after.now) (sym (add-one c.loop-h.h-index))))
          ∙ c.loop-h.invariant.1 k))),
    )
