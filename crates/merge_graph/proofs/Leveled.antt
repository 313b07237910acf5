-- Levels, one component after another.
use Rattle.std.proofs.Common.{◌≡◌, ◌≢◌, ◌∙◌, ◌<◌, ◌≤◌, ◌+◌, ◌⊎◌, ◌++◌, ◌^◌, ℕ, Bool, true, false, cond, List, [], ◌∷◌, None, Option, Some, ap, arith, get_or, inl, inr, length, map, refl, subst, sym, take}
use Rattle.std.specs.Prelude.{slice_get, slice_index}
use Rattle.std.proofs.lemmas.Bool.{cases_Bool, cases_lt, cases_order}
use Rattle.std.proofs.lemmas.List.{get_or_at, get_or_append_left, get_or_past, length_push}
use Rattle.basics.specs.Members.{Has}
use Rattle.basics.proofs.Membership.{has-slice_get}
use Rattle.merge_graph.specs.Edges.Reaches.{stays}
use Rattle.merge_graph.specs.Levels.{AreHigh, AreLevels, IsNumbered, asked, step_of}
use Rattle.merge_graph.specs.Rows.{places_of}
use Rattle.merge_graph.specs.declared.edge.Edge.{Edge}
use Rattle.merge_graph.proofs.Checking.{has_before, has_last, has_more}
use Rattle.merge_graph.proofs.RowLemmas.{has_place, place_holds}
use Rattle.merge_graph.proofs.Together.{between}
use Rattle.merge_graph.proofs.Waited.{has_slice, slice_get_map}

-- the greatest of what the edges at these places ask for, or 1
pub record IsHighest (es : List Edge) (numbers levels places : List ℕ) (level : ℕ) : Type 0 where
  pub least : 1 ≤ level
  pub each : (i : ℕ) → Has places i → asked numbers levels (slice_get es i) ≤ level
  pub found : (level ≡ 1) ⊎ ((i : ℕ) × Has places i × (level ≡ asked numbers levels (slice_get es i)))

pub highest_more : (es : List Edge) (numbers levels places : List ℕ) (n old one new : ℕ) → n < length places → IsHighest es numbers levels (take n places) old
    → one ≡ asked numbers levels (slice_get es (get_or places n 0)) → old ≤ new → one ≤ new → (new ≡ old) ⊎ (new ≡ one) → IsHighest es numbers levels (take (n + 1) places) new
highest_more es numbers levels places n old one new less are is above_old above_one either = record {
  least = (let l = are.least in omega (arith, l, above_old));
  each = λ i has. elim (has_more places n 0 i less has) [
    | inl before ↦ (let e = are.each i before in omega (arith, e, above_old))
    | inr now ↦ subst (λ (m : ℕ). asked numbers levels (slice_get es m) ≤ new) now (omega (arith, is, above_one))
  ];
  found = elim either [
    | inl same ↦ (elim are.found [
      | inl one_only ↦ inl (same ∙ one_only)
      | inr f ↦ inr (f.0, has_before places n 0 f.0 less f.1, same ∙ f.2)
    ])
    | inr fresh ↦ inr (get_or places n 0, has_last places n 0 less, fresh ∙ is)
  ];
}

-- the levels of the first so many components
pub record AreSoFar (es : List Edge) (numbers : List ℕ) (count n : ℕ) (levels : List ℕ) : Type 0 where
  pub all : length levels ≡ n
  pub least : (k : ℕ) → k < n → 1 ≤ slice_index levels k
  pub high : (e : Edge) → Has es e → slice_index numbers e.from < n → slice_index levels (slice_index numbers e.to) + step_of e ≤ slice_index levels (slice_index numbers e.from)
  pub lowest : (level : ℕ → ℕ) → AreHigh es numbers count level → (k : ℕ) → k < n → slice_index levels k ≤ level k

pub none_so_far : (es : List Edge) (numbers : List ℕ) (count : ℕ) (levels : List ℕ) → levels ≡ [] → AreSoFar es numbers count 0 levels
none_so_far es numbers count levels empty = record {
  all = ap length empty;
  least = λ k less. absurd (omega (arith, less));
  high = λ e h less. absurd (omega (arith, less));
  lowest = λ level are k less. absurd (omega (arith, less));
}

step_built : (e : Edge) → e.builds ≡ true → step_of e ≡ 1
step_built e on = ap (λ (b : Bool). cond b 1 0) on

step_waited : (e : Edge) → e.builds ≡ false → step_of e ≡ 0
step_waited e off = ap (λ (b : Bool). cond b 1 0) off

module _ (es : List Edge) (numbers : List ℕ) (count : ℕ) (given : IsNumbered es count numbers) where
  falls : (e : Edge) → Has es e → slice_index numbers e.to ≤ slice_index numbers e.from
  falls e h = given.3.falls e.from e.to (e, h, refl, refl)

  -- an edge to build on goes to an earlier component
  falls_more : (e : Edge) → Has es e → e.builds ≡ true → slice_index numbers e.to < slice_index numbers e.from
  falls_more e h on =
      let ends = between given.0 es given.1 e h in
      let down = falls e h in
      let apart : slice_index numbers e.to ≢ slice_index numbers e.from = λ same.
      given.2 e.from (e.from, e.to, (e, h, on, refl, refl), (stays, stays), (given.3.components e.from e.to ends.0 ends.1).1 (sym same)) in
      omega (arith, down, apart)

  -- what an edge asks of any levels that are high enough
  asks : (level : ℕ → ℕ) → AreHigh es numbers count level → (e : Edge) → Has es e → level (slice_index numbers e.to) + step_of e ≤ level (slice_index numbers e.from)
  asks level are e h = elim (cases_Bool e.builds) [
    | inl on ↦ (let s = step_built e on in let b = are.builds e.from e.to (e, h, on, refl, refl) in omega (arith, s, b))
    | inr off ↦ (let s = step_waited e off in let w = are.waits e.from e.to (e, h, refl, refl) in omega (arith, s, w))
  ]

  -- each component may stand one higher than the one before it
  by_number : AreHigh es numbers count (λ k. k + 1)
  by_number = record {
    least = λ k less. omega arith;
    waits = λ x y g. (let f = given.3.falls x y g in omega (arith, f));
    builds = λ x y b. (
        let f = falls_more b.0 b.1 b.2 in
        let from : slice_index numbers b.0.from ≡ slice_index numbers x = ap (slice_index numbers) b.3 in
        let to : slice_index numbers b.0.to ≡ slice_index numbers y = ap (slice_index numbers) b.4 in
        omega (arith, f, from, to));
  }

  module _ (n : ℕ) (levels : List ℕ) (less : n < count) (are : AreSoFar es numbers count n levels) where
    -- what an edge from the next component asks for is no more than what any levels give it
    asked_low : (level : ℕ → ℕ) → AreHigh es numbers count level → (e : Edge) → Has es e → slice_index numbers e.from ≡ n → asked numbers levels (Some e) ≤ level n
    asked_low level high e h from =
        let to = slice_index numbers e.to in
        let down = falls e h in
        let asks_e = asks level high e h in
        let at_n : level (slice_index numbers e.from) ≡ level n = ap level from in
        elim (cases_lt to n) [
          | inl below ↦ (let low = are.lowest level high to below in omega (arith, low, asks_e, at_n))
          | inr past ↦ (
              let none : slice_index levels to ≡ 0 = get_or_past levels to 0 (omega (arith, past, are.all)) in
              omega (arith, none, asks_e, at_n)
              )
        ]

    asked_edge : (level : ℕ → ℕ) → AreHigh es numbers count level → (i : ℕ) → Has (places_of (map (λ e. slice_index numbers e.from) es) n) i → (o : Option Edge) → slice_get es i ≡ o → asked numbers levels o ≤ level n
    asked_edge level high i has None is = omega arith
    asked_edge level high i has (Some e) is =
        let held = place_holds (map (λ (f : Edge). slice_index numbers f.from) es) n i has in
        let at = slice_get_map (λ (f : Edge). slice_index numbers f.from) es i e is in
        asked_low level high e (has-slice_get es i e is) (sym at.1 ∙ held.1)

    -- the sums fit
    pub asked_fits : count < 2 ^ 64 → (i : ℕ) → Has (places_of (map (λ e. slice_index numbers e.from) es) n) i → asked numbers levels (slice_get es i) < 2 ^ 64
    asked_fits small i has =
        let low = asked_edge (λ k. k + 1) by_number i has (slice_get es i) refl in
        omega (arith, low, less, small)

    before_same : (level k : ℕ) → k < n → slice_index (levels ++ level ∷ []) k ≡ slice_index levels k
    before_same level k below = get_or_append_left levels (level ∷ []) 0 k (omega (arith, below, are.all))

    here_new : (level : ℕ) → slice_index (levels ++ level ∷ []) n ≡ level
    here_new level = get_or_at levels level [] 0 n are.all

    -- one component more
    pub so_far_more : (level : ℕ) → IsHighest es numbers levels (places_of (map (λ e. slice_index numbers e.from) es) n) level → AreSoFar es numbers count (n + 1) (levels ++ level ∷ [])
    so_far_more level highest =
        let new = levels ++ level ∷ [] in
        let here = here_new level in
        record {
          all = length_push levels level ∙ ap (λ (m : ℕ). m + 1) are.all;
          least = λ k below. elim (cases_order k n) [
            | inl same ↦ (let at : slice_index new k ≡ level = ap (slice_index new) same ∙ here in let l = highest.least in omega (arith, at, l))
            | inr (inl before) ↦ (let at = before_same level k before in let l = are.least k before in omega (arith, at, l))
            | inr (inr after) ↦ absurd (omega (arith, below, after))
          ];
          high = λ e h below.
              (let from = slice_index numbers e.from in
              let to = slice_index numbers e.to in
              let down = falls e h in
              elim (cases_order from n) [
                | inl same ↦ (
                    let r = has_slice es e h in
                    let at = slice_get_map (λ (f : Edge). slice_index numbers f.from) es r.0 e r.1 in
                    let has = has_place (map (λ (f : Edge). slice_index numbers f.from) es) n r.0 at.0 (at.1 ∙ same) in
                    let each : asked numbers levels (Some e) ≤ level = subst (λ (o : Option Edge). asked numbers levels o ≤ level) r.1 (highest.each r.0 has) in
                    let at_from : slice_index new from ≡ level = ap (slice_index new) same ∙ here in
                    elim (cases_lt to n) [
                      | inl before ↦ (let at_to = before_same level to before in omega (arith, each, at_from, at_to))
                      | inr past ↦ (
                          let to_same : to ≡ n = omega (arith, past, down, same) in
                          let at_to : slice_index new to ≡ level = ap (slice_index new) to_same ∙ here in
                          elim (cases_Bool e.builds) [
                            | inl on ↦ absurd (let f = falls_more e h on in omega (arith, f, to_same, same))
                            | inr off ↦ (let s = step_waited e off in omega (arith, s, at_from, at_to))
                          ]
                          )
                    ]
                    )
                | inr (inl before) ↦ (
                    let at_from = before_same level from before in
                    let at_to = before_same level to (omega (arith, before, down)) in
                    let old = are.high e h before in
                    omega (arith, at_from, at_to, old)
                    )
                | inr (inr after) ↦ absurd (omega (arith, below, after))
              ]);
          lowest = λ other high k below. elim (cases_order k n) [
            | inl same ↦ (
                let at : slice_index new k ≡ level = ap (slice_index new) same ∙ here in
                let at_other : other k ≡ other n = ap other same in
                elim highest.found [
                  | inl one ↦ (let l = high.least n less in omega (arith, at, at_other, one, l))
                  | inr f ↦ (let low = asked_edge other high f.0 f.1 (slice_get es f.0) refl in omega (arith, at, at_other, f.2, low))
                ]
                )
            | inr (inl before) ↦ (let at = before_same level k before in let l = are.lowest other high k before in omega (arith, at, l))
            | inr (inr after) ↦ absurd (omega (arith, below, after))
          ];
        }

  -- all components
  pub levels_all : (n : ℕ) (levels : List ℕ) → count ≡ n → AreSoFar es numbers count n levels → AreLevels es numbers count levels
  levels_all n levels all are =
      let in_range : (e : Edge) → Has es e → slice_index numbers e.from < n = λ e h.
      (let ends = between given.0 es given.1 e h in let b = given.3.below e.from ends.0 in omega (arith, b, all)) in
      record {
        each = are.all ∙ sym all;
        high = record {
          least = λ k less. are.least k (omega (arith, less, all));
          waits = λ x y g. (
              let h = are.high g.0 g.1 (in_range g.0 g.1) in
              let from : slice_index levels (slice_index numbers g.0.from) ≡ slice_index levels (slice_index numbers x) = ap (λ (m : ℕ). slice_index levels (slice_index numbers m)) g.2 in
              let to : slice_index levels (slice_index numbers g.0.to) ≡ slice_index levels (slice_index numbers y) = ap (λ (m : ℕ). slice_index levels (slice_index numbers m)) g.3 in
              omega (arith, h, from, to));
          builds = λ x y b. (
              let h = are.high b.0 b.1 (in_range b.0 b.1) in
              let s = step_built b.0 b.2 in
              let from : slice_index levels (slice_index numbers b.0.from) ≡ slice_index levels (slice_index numbers x) = ap (λ (m : ℕ). slice_index levels (slice_index numbers m)) b.3 in
              let to : slice_index levels (slice_index numbers b.0.to) ≡ slice_index levels (slice_index numbers y) = ap (λ (m : ℕ). slice_index levels (slice_index numbers m)) b.4 in
              omega (arith, h, s, from, to));
        };
        lowest = λ level high k less. are.lowest level high k (omega (arith, less, all));
      }
