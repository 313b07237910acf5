use Rattle.std.proofs.Common.{◌≡◌, ◌∷◌, ◌++◌, ◌∙◌, ◌+◌, ◌<◌, ◌||◌, ◌↔◌, ◌/◌, ℕ, List, [], length, map, get_or, ap, sym, subst, nat_eq, arith, true, length-append}
use Rattle.std.proofs.lemmas.List.{length-map, map-append}
use Rattle.basics.specs.Members.{Has}
use Rattle.plan_law.specs.Plans.{Group, Reaches, group_at}
use Rattle.plan_lives.specs.Reaching.{has_bit, some_row}
use Rattle.plan_lives.proofs.Places.{group_is, place_has}
use Rattle.plan_lives.proofs.RowBits.{row_right, rows_pushed}
use Rattle.plan_lives.proofs.reach.rows_of.Goals as goal

pub row_of-requires-clause-after : goal.row_of-requires-clause-after
row_of-requires-clause-after c k h =
    let p = c.args.groups.now in
    let e = group_is p c.loop-g.g c.index-groups-g.result (omega arith) c.index-groups-g.is in
    let a : c.deref-in-loop-g.result.now ≡ (group_at p c.loop-g.g).after = c.deref-in-loop-g.ensures.value ∙ (ap (λ (x : Group). x.after) (c.group.view_is ∙ sym e)) in
    let less = c.requires.earlier c.loop-g.g (get_or c.deref-in-loop-g.result.now k 0) (subst (λ (xs : List ℕ). Has xs (get_or c.deref-in-loop-g.result.now k 0)) a (place_has c.deref-in-loop-g.result.now k h)) in
    let size : length c.deref.result.now ≡ c.loop-g.g = ap length c.deref.ensures.value ∙ c.loop-g.invariant.0 in
    omega (arith, less, size)

pub loop-g-preserved : goal.loop-g-preserved
loop-g-preserved c =
    let p = c.args.groups.now in
    let width = length p / 64 + 1 in
    let rows = map (λ v. v.items) c.loop-g.rows.items in
    let e = group_is p c.loop-g.g c.index-groups-g.result (omega arith) c.index-groups-g.is in
    let a : c.deref-in-loop-g.result.now ≡ (group_at p c.loop-g.g).after = c.deref-in-loop-g.ensures.value ∙ (ap (λ (x : Group). x.after) (c.group.view_is ∙ sym e)) in
    let size : length rows ≡ c.loop-g.g = length-map c.loop-g.rows.items (λ v. v.items) ∙ c.loop-g.invariant.0 in
    let now : map (λ v. v.items) c.push.new.self.items ≡ rows ++ c.in_ok-row.row.items ∷ [] = ap (map (λ v. v.items)) c.in_ok-push.ensures.items ∙ map-append (λ v. v.items) c.loop-g.rows.items (c.in_ok-row.row ∷ []) in
    let below : (k : ℕ) → Has (group_at p c.loop-g.g).after k → k < length rows = λ k h. let less = c.requires.earlier c.loop-g.g k h in omega (arith, less, size) in
    let bits : (k : ℕ) → has_bit c.in_ok-row.row.items k ≡ (some_row rows (group_at p c.loop-g.g).after k || nat_eq k c.loop-g.g) = λ k.
    c.in_ok-row.ensures.bits k ∙ (ap (λ rs. some_row (map (λ v. v.items) rs) c.deref-in-loop-g.result.now k || nat_eq k c.loop-g.g) c.deref.ensures.value ∙ ap (λ hs. some_row rows hs k || nat_eq k c.loop-g.g) a) in
    let right = row_right p width c.loop-g.g rows c.in_ok-row.row.items c.loop-g.invariant.1 below bits in (
      ap length c.in_ok-push.ensures.items ∙ (length-append c.loop-g.rows.items (c.in_ok-row.row ∷ []) ∙ ap (λ m. m + 1) c.loop-g.invariant.0),
      rw now (rows_pushed p width rows c.in_ok-row.row.items c.loop-g.invariant.1 c.in_ok-row.ensures.length (subst (λ (g : ℕ). (h : ℕ) → (has_bit c.in_ok-row.row.items h ≡ true) ↔ Reaches p g h) (sym size) right)),
    )
