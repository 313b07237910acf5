-- Groups of components and of levels are the fine plan and the level plan, and in form.
use Rattle.std.proofs.Common.{◌≡◌, ◌≢◌, ◌∙◌, ◌<◌, ◌≤◌, ◌+◌, ℕ, zero, suc, List, [], arith, get_or, inl, inr, length, refl, subst, sym}
use Rattle.std.specs.Prelude.{slice_index}
use Rattle.std.proofs.lemmas.Bool.{cases_order}
use Rattle.std.proofs.lemmas.List.{get_or_past}
use Rattle.basics.specs.Limits.{most_groups}
use Rattle.basics.specs.Members.{Has}
use Rattle.merge_graph.specs.After.{AreAfter, IsAfter}
use Rattle.merge_graph.specs.Edges.{AreBetween}
use Rattle.merge_graph.specs.Edges.Reaches.{stays}
use Rattle.merge_graph.specs.Laws.{WaitsFall}
use Rattle.merge_graph.specs.Levels.{AreHigh, AreLevelRows}
use Rattle.merge_graph.specs.Numbering.{HasNoBuildInside, IsNumbering}
use Rattle.merge_graph.specs.Rows.{AreRising, AreRows}
use Rattle.merge_graph.specs.declared.edge.Edge.{Edge}
use Rattle.merge_graph.proofs.RowLemmas.{places_rise}
use Rattle.merge_graph.proofs.Together.{between}
use Rattle.plan_law.specs.Plans.{Group, WaitsForEarlier, group_at, no_group}
use Rattle.plan_lives.specs.Form.{IsPlanInForm}
use Rattle.merge_edges.specs.Changes.{Change as LineChange}
use Rattle.merge_groups.specs.Grouped.{AreFine, AreLevel, Makes, before}
use Rattle.merge_groups.specs.Rows.{AreGroups, AreWaiting}

-- behind the last group none waits
none_waits : (plan : List Group) (g h : ℕ) → length plan ≤ g → Has (group_at plan g).after h → h < g
none_waits plan g h past has =
    absurd (subst (λ (x : Group). Has x.after h) (get_or_past plan g no_group past) has)

-- each waits for earlier ones where those that are there do
earlier_if : (plan : List Group) → ((g h : ℕ) → g < length plan → Has (group_at plan g).after h → h < g) → WaitsForEarlier plan
earlier_if plan each = λ g h has. elim (cases_order g (length plan)) [
  | inl same ↦ none_waits plan g h (omega (arith, same)) has
  | inr (inl below) ↦ each g h below has
  | inr (inr above) ↦ none_waits plan g h (omega (arith, above)) has
]

pub rows_rise : (numbers : List ℕ) (count : ℕ) (rows : List (List ℕ)) → AreRows numbers count rows → (k : ℕ) → k < length rows → AreRising (get_or rows k [])
rows_rise numbers count rows are k less =
    subst (λ (l : List ℕ). AreRising l) (sym (are.row k (let e = are.each in omega (arith, less, e)))) (places_rise numbers k)

module _ (cs : List LineChange) (es : List Edge) (numbers : List ℕ) (count : ℕ) where
  pub fine_drafted : (rows afters : List (List ℕ)) (n : ℕ) (plan : List Group) → n ≡ count → AreRows numbers count rows → AreAfter es numbers count afters → AreGroups cs rows afters n plan → AreFine cs es numbers count plan
  fine_drafted rows afters n plan same rows_are afters_are are = record {
    each = are.each ∙ same;
    makes = λ k less. subst (λ (row : List ℕ). Makes cs row (group_at plan k)) (rows_are.row k less) (are.makes k (omega (arith, less, same)));
    waits = λ k less. subst (λ (l : List ℕ). IsAfter es numbers k l) (sym (are.waits k (omega (arith, less, same)))) (afters_are.after k less);
  }

  pub fine_form : (nodes : ℕ) (plan : List Group) → WaitsFall → IsNumbering nodes es count numbers → count ≤ most_groups → AreFine cs es numbers count plan → IsPlanInForm plan
  fine_form nodes plan fall numbering few are = record {
    few = (let e = are.each in omega (arith, e, few));
    earlier = earlier_if plan (λ g h less has. fall nodes es count numbers g h (group_at plan g).after numbering (are.waits g (let e = are.each in omega (arith, e, less))) has);
  }

  pub level_drafted : (rows afters : List (List ℕ)) (plan : List Group) → AreLevelRows es numbers count rows → AreWaiting (length rows) afters → AreGroups cs rows afters (length rows) plan → AreLevel cs es numbers count plan
  level_drafted rows afters plan by_level waiting are = record {
    rows = rows;
    by_level = by_level;
    each = are.each;
    makes = are.makes;
    waits = λ k less. are.waits k less ∙ waiting.row k less;
  }

  before_below : (k h : ℕ) → Has (before k) h → h < k
  before_below zero h has = absurd has
  before_below (suc k) h (inl same) = omega (arith, same)
  before_below (suc k) h (inr has) = absurd has

  module _ (nodes : ℕ) (within : AreBetween nodes es) (alone : HasNoBuildInside es) (numbering : IsNumbering nodes es count numbers) where
    -- each component may stand one higher than the one before it
    one_higher : AreHigh es numbers count (λ k. k + 1)
    one_higher = record {
      least = λ k less. omega arith;
      waits = λ x y g. (let f = numbering.falls x y g in omega (arith, f));
      builds = λ x y b. (
          let f = numbering.falls x y (b.0, b.1, b.3, b.4) in
          let ends = between nodes es within b.0 b.1 in
          let x_in : x < nodes = subst (λ (n : ℕ). n < nodes) b.3 ends.0 in
          let y_in : y < nodes = subst (λ (n : ℕ). n < nodes) b.4 ends.1 in
          let apart : slice_index numbers x ≢ slice_index numbers y = λ same. alone x (x, y, b, (stays, stays), (numbering.components x y x_in y_in).1 same) in
          omega (arith, f, apart));
    }

    -- so there are no more levels than components
    few_levels : (rows : List (List ℕ)) → AreLevelRows es numbers count rows → (n : ℕ) → length rows ≡ n → n ≤ count
    few_levels rows by_level zero is = omega arith
    few_levels rows by_level (suc n) is =
        let less : n < length rows = omega (arith, is) in
        let node = by_level.no_gap n less in
        let on = (by_level.members n less node.0).0 node.1 in
        let inside = numbering.below node.0 (let l = numbering.each in let o = on.0 in omega (arith, l, o)) in
        let low = by_level.are_levels.lowest (λ k. k + 1) one_higher (slice_index numbers node.0) inside in
        let high = on.1 in
        omega (arith, low, high, inside)

    pub level_form : (plan : List Group) → count ≤ most_groups → AreLevel cs es numbers count plan → IsPlanInForm plan
    level_form plan few are =
        let levels = few_levels are.rows are.by_level (length are.rows) refl in
        let each = are.each in
        record {
          few = omega (arith, levels, each, few);
          earlier = earlier_if plan (λ g h less has. before_below g h (subst (λ (l : List ℕ). Has l h) (are.waits g (omega (arith, less, each))) has));
        }
