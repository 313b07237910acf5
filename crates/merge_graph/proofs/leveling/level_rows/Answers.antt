use Rattle.std.proofs.Common.{◌≡◌, ◌∙◌, ◌-◌, ◌<◌, ◌≤◌, List, ℕ, ap, length, map, subst}
use Rattle.std.specs.Prelude.{slice_index}
use Rattle.merge_graph.specs.Rows.{AreRows}
use Rattle.merge_graph.proofs.Gapless.{level_rows_are}
use Rattle.merge_graph.proofs.leveling.level_rows.Goals as goal

pub returns : goal.returns
returns c =
    let es = c.args.edges.now in
    let numbers = c.args.numbers.now in
    let levels = c.in_ok-levels.levels.items in
    let high = c.highest.result in
    let rows = map (λ r. r.items) c.in_ok-rows.rows.items in
    let rows_are : AreRows (map (λ j. slice_index levels j - 1) numbers) high rows =
    subst (λ (l : List ℕ). AreRows l high rows)
    (c.deref-2.ensures.value ∙ (c.in_ok-places.ensures ∙ ap (λ (ls : List ℕ). map (λ j. slice_index ls j - 1) numbers) c.deref.ensures.value))
    c.in_ok-rows.ensures in
    let above : (k : ℕ) → slice_index levels k ≤ high =
    subst (λ (l : List ℕ). (k : ℕ) → slice_index l k ≤ high) c.deref-3.ensures.value c.highest.ensures.above in
    let found : 0 < high → (k : ℕ) × (k < length levels) × (slice_index levels k ≡ high) =
    subst (λ (l : List ℕ). 0 < high → (k : ℕ) × (k < length l) × (slice_index l k ≡ high)) c.deref-3.ensures.value c.highest.ensures.found in
    level_rows_are es numbers c.args.count c.requires levels c.in_ok-levels.ensures high rows rows_are above found
