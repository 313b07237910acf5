use Rattle.std.proofs.Common.{◌≡◌, ◌∙◌, ◌+◌, ◌<◌, ◌^◌, [], List, ℕ, ap, arith, get_or, map, subst, sym}
use Rattle.std.specs.Prelude.{slice_get, slice_index}
use Rattle.basics.specs.Members.{Has}
use Rattle.merge_graph.specs.Levels.{asked}
use Rattle.merge_graph.specs.Rows.{places_of}
use Rattle.merge_graph.proofs.Leveled.{AreSoFar, IsHighest, asked_fits, levels_all, so_far_more}
use Rattle.merge_graph.proofs.leveling.levels.Goals as goal
use Rattle.merge_graph.proofs.leveling.levels.Goals.{After-row_at}

row_is : (c : After-row_at) → c.row_at.result.now ≡ places_of (map (λ e. slice_index c.args.numbers.now e.from) c.args.edges.now) c.loop-number.number
row_is c =
    let es = c.args.edges.now in
    let n = c.loop-number.number in
    c.row_at.ensures
    ∙ (ap (λ rows. get_or (map (λ r. r.items) rows) n []) c.deref-in-loop-number-2.ensures.value
    ∙ (c.in_ok-leaving.ensures.row n c.loop-number-test.true ∙ ap (λ (l : List ℕ). places_of l n) (c.deref.ensures.value ∙ c.in_ok-sources.ensures)))

pub level_over-level-requires : goal.level_over-level-requires
level_over-level-requires c =
    let es = c.args.edges.now in
    let numbers = c.args.numbers.now in
    let n = c.loop-number.number in
    let levels = c.loop-number.levels.items in
    λ i has. subst (λ (l : List ℕ). asked numbers l (slice_get es i) < 2 ^ 64) (sym c.deref-in-loop-number.ensures.value)
    (asked_fits es numbers c.args.count c.requires n levels c.loop-number-test.true c.loop-number.invariant (omega arith) i (subst (λ (l : List ℕ). Has l i) (row_is c) has))

pub loop-number-preserved : goal.loop-number-preserved
loop-number-preserved c =
    let es = c.args.edges.now in
    let numbers = c.args.numbers.now in
    let n = c.loop-number.number in
    let levels = c.loop-number.levels.items in
    let level = c.level_over-level.result in
    let places = places_of (map (λ e. slice_index numbers e.from) es) n in
    let as_called : IsHighest es numbers c.deref-in-loop-number.result.now c.row_at.result.now level = record {
      least = c.level_over-level.ensures.least;
      each = c.level_over-level.ensures.each;
      found = c.level_over-level.ensures.found;
    } in
    let highest : IsHighest es numbers levels places level =
    subst (λ (l : List ℕ). IsHighest es numbers levels l level) (row_is (goal.at.loop-number-preserved c).After-row_at)
    (subst (λ (l : List ℕ). IsHighest es numbers l c.row_at.result.now level) c.deref-in-loop-number.ensures.value as_called) in
    subst (λ (l : List ℕ). AreSoFar es numbers c.args.count (n + 1) l) (sym c.in_ok-push.ensures.items)
    (so_far_more es numbers c.args.count c.requires n levels c.loop-number-test.true c.loop-number.invariant level highest)

pub returns : goal.returns
returns c =
    levels_all c.args.edges.now c.args.numbers.now c.args.count c.requires c.loop-number.number c.loop-number.levels.items (omega (arith, c.loop-number-test.false, c.loop-number.auto.number-end)) c.loop-number.invariant
