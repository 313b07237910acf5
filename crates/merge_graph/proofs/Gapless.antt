-- Levels have no gaps: what stands above one would stand lower.
use Rattle.std.proofs.Common.{◌≡◌, ◌≢◌, ◌∙◌, ◌<◌, ◌≤◌, ◌+◌, ◌-◌, ◌⊎◌, ℕ, Bool, cond, List, [], ◌∷◌, ap, arith, get_or, inl, inr, length, map, refl, subst, sym, take}
use Rattle.std.specs.Prelude.{nat_lt, slice_index}
use Rattle.std.proofs.lemmas.Bool.{cases_lt, le-ltb, lt-ltb}
use Rattle.std.proofs.lemmas.List.{get_or-map, get_or_default, get_or_past, length-map, take_all}
use Rattle.basics.specs.Members.{Has}
use Rattle.basics.proofs.Membership.{contains-from_has, has-from_contains}
use Rattle.merge_graph.specs.Edges.{Goes}
use Rattle.merge_graph.specs.Levels.{AreHigh, AreLevelRows, AreLevels, IsNumbered}
use Rattle.merge_graph.specs.Rows.{AreRising, AreRows}
use Rattle.merge_graph.specs.declared.edge.Edge.{Edge}
use Rattle.merge_graph.proofs.Checking.{has_before, has_last, has_more}
use Rattle.merge_graph.proofs.RowLemmas.{has_place, place_holds, places_rise}
use Rattle.merge_graph.proofs.Together.{between}

-- the greatest of them, and 0 where there is none
pub record IsGreatest (levels : List ℕ) (high : ℕ) : Type 0 where
  pub above : (k : ℕ) → Has levels k → k ≤ high
  pub found : 0 < high → Has levels high

pub greatest_none : IsGreatest [] 0
greatest_none = record { above = λ k h. absurd h; found = λ less. absurd (omega (arith, less)) }

pub greatest_more : (levels : List ℕ) (i old new : ℕ) → i < length levels → IsGreatest (take i levels) old → old ≤ new → get_or levels i 0 ≤ new → (new ≡ old) ⊎ (new ≡ get_or levels i 0) → IsGreatest (take (i + 1) levels) new
greatest_more levels i old new less is above_old above_one either = record {
  above = λ k h. elim (has_more levels i 0 k less h) [
    | inl before ↦ (let a = is.above k before in omega (arith, a, above_old))
    | inr now ↦ omega (arith, now, above_one)
  ];
  found = λ some. elim either [
    | inl same ↦ subst (λ (n : ℕ). Has (take (i + 1) levels) n) (sym same) (has_before levels i 0 old less (is.found (omega (arith, some, same))))
    | inr fresh ↦ subst (λ (n : ℕ). Has (take (i + 1) levels) n) (sym fresh) (has_last levels i 0 less)
  ];
}

pub greatest_above : (levels : List ℕ) (i high : ℕ) → length levels ≤ i → IsGreatest (take i levels) high → (k : ℕ) → slice_index levels k ≤ high
greatest_above levels i high past is k = elim (cases_lt k (length levels)) [
  | inl within ↦ (
      let all : IsGreatest levels high = subst (λ (l : List ℕ). IsGreatest l high) (take_all i levels past) is in
      all.above (slice_index levels k) (has-from_contains levels (slice_index levels k) (k, within, get_or_default levels k _ 0 within))
      )
  | inr over ↦ (let none : slice_index levels k ≡ 0 = get_or_past levels k 0 over in omega (arith, none))
]

pub greatest_found : (levels : List ℕ) (i high : ℕ) → length levels ≤ i → IsGreatest (take i levels) high → 0 < high → (k : ℕ) × (k < length levels) × (slice_index levels k ≡ high)
greatest_found levels i high past is some =
    let all : IsGreatest levels high = subst (λ (l : List ℕ). IsGreatest l high) (take_all i levels past) is in
    let c = contains-from_has levels high (all.found some) in
    (c.0, c.1, get_or_default levels c.0 0 _ c.1 ∙ c.2)

-- one lower, above a height
abbrev lowered : ℕ → ℕ → ℕ
lowered h l = cond (nat_lt h l) (l - 1) l

lowered_cases : (h l : ℕ) → ((h < l) × (lowered h l ≡ l - 1)) ⊎ ((l ≤ h) × (lowered h l ≡ l))
lowered_cases h l = elim (cases_lt h l) [
  | inl above ↦ inl (above, ap (λ (b : Bool). cond b (l - 1) l) (lt-ltb h l above))
  | inr below ↦ inr (below, ap (λ (b : Bool). cond b (l - 1) l) (le-ltb h l below))
]

lowered_least : (h l : ℕ) → 1 ≤ h → 1 ≤ l → 1 ≤ lowered h l
lowered_least h l some least = elim (lowered_cases h l) [
  | inl above ↦ omega (arith, above.0, above.1, some)
  | inr below ↦ omega (arith, below.0, below.1, least)
]

lowered_waits : (h a b : ℕ) → a ≤ b → lowered h a ≤ lowered h b
lowered_waits h a b le = elim (lowered_cases h a) [
  | inl above ↦ (elim (lowered_cases h b) [
    | inl high ↦ omega (arith, above.0, above.1, high.0, high.1, le)
    | inr low ↦ omega (arith, above.0, above.1, low.0, low.1, le)
  ])
  | inr below ↦ (elim (lowered_cases h b) [
    | inl high ↦ omega (arith, below.0, below.1, high.0, high.1, le)
    | inr low ↦ omega (arith, below.0, below.1, low.0, low.1, le)
  ])
]

lowered_builds : (h a b : ℕ) → a ≢ h → a < b → lowered h a < lowered h b
lowered_builds h a b apart less = elim (lowered_cases h a) [
  | inl above ↦ (elim (lowered_cases h b) [
    | inl high ↦ omega (arith, above.0, above.1, high.0, high.1, less)
    | inr low ↦ omega (arith, above.0, above.1, low.0, low.1, less)
  ])
  | inr below ↦ (elim (lowered_cases h b) [
    | inl high ↦ omega (arith, below.0, below.1, high.0, high.1, less, apart)
    | inr low ↦ omega (arith, below.0, below.1, low.0, low.1, less)
  ])
]

module _ (es : List Edge) (numbers : List ℕ) (count : ℕ) (given : IsNumbered es count numbers) (levels : List ℕ) (are : AreLevels es numbers count levels) where
  -- the component of where an edge goes is one of them
  target_in : (x y : ℕ) → Goes es x y → slice_index numbers y < count
  target_in x y g =
      let ends = between given.0 es given.1 g.0 g.1 in
      given.3.below y (subst (λ (n : ℕ). n < given.0) g.3 ends.1)

  -- where no component has a level, none is above it
  pub none_above : (h : ℕ) → 1 ≤ h → ((k : ℕ) → k < count → slice_index levels k ≢ h) → (k : ℕ) → k < count → slice_index levels k ≤ h
  none_above h some gap k less =
      let high : AreHigh es numbers count (λ j. lowered h (slice_index levels j)) = record {
        least = λ j below. lowered_least h (slice_index levels j) some (are.high.least j below);
        waits = λ x y g. lowered_waits h (slice_index levels (slice_index numbers y)) (slice_index levels (slice_index numbers x)) (are.high.waits x y g);
        builds = λ x y b. lowered_builds h (slice_index levels (slice_index numbers y)) (slice_index levels (slice_index numbers x)) (gap (slice_index numbers y) (target_in x y (b.0, b.1, b.3, b.4))) (are.high.builds x y b);
      } in
      let low = are.lowest (λ j. lowered h (slice_index levels j)) high k less in
      elim (lowered_cases h (slice_index levels k)) [
        | inl above ↦ absurd (omega (arith, low, above.0, above.1, some))
        | inr below ↦ below.0
      ]

  -- a node's level is one above the number of its row
  level_is : (x k : ℕ) → x < length numbers → (slice_index (map (λ j. slice_index levels j - 1) numbers) x ≡ k → slice_index levels (slice_index numbers x) ≡ k + 1)
      × (slice_index levels (slice_index numbers x) ≡ k + 1 → slice_index (map (λ j. slice_index levels j - 1) numbers) x ≡ k)
  level_is x k less =
      let at : slice_index (map (λ j. slice_index levels j - 1) numbers) x ≡ slice_index levels (slice_index numbers x) - 1 = get_or-map (λ j. slice_index levels j - 1) numbers x 0 0 less in
      let in_count = given.3.below x (omega (arith, less, given.3.each)) in
      let least = are.high.least (slice_index numbers x) in_count in
      ((λ e. omega (arith, at, least, e)), (λ e. omega (arith, at, e)))

  module _ (high : ℕ) (rows : List (List ℕ)) (rows_are : AreRows (map (λ j. slice_index levels j - 1) numbers) high rows) (above : (k : ℕ) → slice_index levels k ≤ high)
      (found : 0 < high → (k : ℕ) × (k < length levels) × (slice_index levels k ≡ high)) where
    long : length (map (λ j. slice_index levels j - 1) numbers) ≡ length numbers
    long = length-map numbers (λ j. slice_index levels j - 1)

    in_row : (k : ℕ) → k < length rows → (x : ℕ) → x < length numbers → slice_index levels (slice_index numbers x) ≡ k + 1 → Has (get_or rows k []) x
    in_row k less x x_in at =
        subst (λ (l : List ℕ). Has l x) (sym (rows_are.row k (omega (arith, less, rows_are.each))))
        (has_place (map (λ j. slice_index levels j - 1) numbers) k x (omega (arith, x_in, long)) ((level_is x k x_in).1 at))

    of_row : (k : ℕ) → k < length rows → (x : ℕ) → Has (get_or rows k []) x → (x < length numbers) × (slice_index levels (slice_index numbers x) ≡ k + 1)
    of_row k less x has =
        let held = place_holds (map (λ j. slice_index levels j - 1) numbers) k x (subst (λ (l : List ℕ). Has l x) (rows_are.row k (omega (arith, less, rows_are.each))) has) in
        let x_in : x < length numbers = omega (arith, held.0, long) in
        (x_in, (level_is x k x_in).0 held.1)

    some_in : (k : ℕ) → k < length rows → (row : List ℕ) → get_or rows k [] ≡ row → (x : ℕ) × Has (get_or rows k []) x
    some_in k less [] is =
        let gap : (j : ℕ) → j < count → slice_index levels j ≢ k + 1 = λ j j_in at.
        (let x = given.3.no_gap j j_in in
        let x_in : x.0 < length numbers = omega (arith, x.1, given.3.each) in
        subst (λ (l : List ℕ). Has l x.0) is (in_row k less x.0 x_in (ap (slice_index levels) x.2 ∙ at))) in
        let top = found (omega (arith, less, rows_are.each)) in
        let top_in : top.0 < count = omega (arith, top.1, are.each) in
        let low = none_above (k + 1) (omega arith) gap top.0 top_in in
        let apart = gap top.0 top_in in
        absurd (omega (arith, low, apart, top.2, less, rows_are.each))
    some_in k less (x ∷ row) is = (x, subst (λ (l : List ℕ). Has l x) (sym is) (inl refl))

    pub level_rows_are : AreLevelRows es numbers count rows
    level_rows_are = record {
      levels = levels;
      are_levels = are;
      rising = λ k less. subst (λ (l : List ℕ). AreRising l) (sym (rows_are.row k (omega (arith, less, rows_are.each)))) (places_rise (map (λ j. slice_index levels j - 1) numbers) k);
      members = λ k less x. ((λ has. of_row k less x has), (λ at. in_row k less x at.0 at.1));
      all = λ x x_in. (let a = above (slice_index numbers x) in omega (arith, a, rows_are.each));
      no_gap = λ k less. some_in k less (get_or rows k []) refl;
    }
