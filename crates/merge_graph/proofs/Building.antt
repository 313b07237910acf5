-- The first component with an edge to build on inside.
use Rattle.std.proofs.Common.{◌≡◌, ◌∙◌, ◌<◌, ◌≤◌, ◌+◌, ◌⊎◌, ℕ, List, None, Option, Some, ap, arith, get_or, inl, inr, length, refl, subst, sym, take}
use Rattle.std.specs.Prelude.{IsTrue, min, slice_index}
use Rattle.std.proofs.lemmas.Bool.{cases_lt}
use Rattle.basics.specs.Members.{Has}
use Rattle.merge_graph.specs.Certified.{AreCertified, IsFirstInside, IsInside, first_of, smaller}
use Rattle.merge_graph.specs.Edges.{AreBetween, AreTogether, Builds}
use Rattle.merge_graph.specs.Numbering.{HasNoBuildInside, IsBuildCycle}
use Rattle.merge_graph.specs.Rows.{places_of}
use Rattle.merge_graph.specs.declared.edge.Edge.{Edge}
use Rattle.merge_graph.proofs.Checking.{has_before, has_last, has_more, joined}
use Rattle.merge_graph.proofs.Together.{between}
use Rattle.merge_graph.proofs.RowLemmas.{has_place, place_holds, places_rise}

module _ (numbers firsts : List ℕ) (es : List Edge) (i : ℕ) (d : Edge) (less : i < length es) where
  -- an edge that isn't inside a component changes nothing
  pub inside_same : (best : Option ℕ) → IsFirstInside numbers firsts (take i es) best → (IsInside numbers (get_or es i d) → ⊥) → IsFirstInside numbers firsts (take (i + 1) es) best
  inside_same None is out = λ e h inside. elim (has_more es i d e less h) [
    | inl before ↦ is e before inside
    | inr now ↦ out (subst (λ (f : Edge). IsInside numbers f) (sym now) inside)
  ]
  inside_same (Some x) is out = (
    (is.0.0, has_before es i d is.0.0 less is.0.1, is.0.2, is.0.3),
    λ e h inside. elim (has_more es i d e less h) [
      | inl before ↦ is.1 e before inside
      | inr now ↦ absurd (out (subst (λ (f : Edge). IsInside numbers f) (sym now) inside))
    ],
  )

  min_cases : (a b : ℕ) → (min a b ≡ a) ⊎ (min a b ≡ b)
  min_cases a b = elim (cases_lt a b) [
    | inl below ↦ inl (omega (arith, below))
    | inr from ↦ inr (omega (arith, from))
  ]

  -- one that is may be the first
  pub inside_more : (best : Option ℕ) → IsFirstInside numbers firsts (take i es) best → IsInside numbers (get_or es i d)
      → IsFirstInside numbers firsts (take (i + 1) es) (Some (smaller best (first_of numbers firsts (get_or es i d).from)))
  inside_more None is inside = (
    (get_or es i d, has_last es i d less, inside, refl),
    λ e h within. elim (has_more es i d e less h) [
      | inl before ↦ absurd (is e before within)
      | inr now ↦ subst (λ (f : Edge). first_of numbers firsts (get_or es i d).from ≤ first_of numbers firsts f.from) now (omega arith)
    ],
  )
  inside_more (Some x) is inside =
      let new = first_of numbers firsts (get_or es i d).from in (
        elim (min_cases x new) as (λ _. (e : Edge) × Has (take (i + 1) es) e × IsInside numbers e × (first_of numbers firsts e.from ≡ min x new)) [
          | inl old ↦ (is.0.0, has_before es i d is.0.0 less is.0.1, is.0.2, is.0.3 ∙ sym old)
          | inr fresh ↦ (get_or es i d, has_last es i d less, inside, sym fresh)
        ],
        λ e h within. elim (has_more es i d e less h) [
          | inl before ↦ (let b = is.1 e before within in omega (arith, b))
          | inr now ↦ subst (λ (f : Edge). min x new ≤ first_of numbers firsts f.from) now (omega arith)
        ],
      )

-- the same, as the code has it
pub step_in : (numbers firsts : List ℕ) (es : List Edge) (i : ℕ) (d : Edge) (best new : Option ℕ) (from to first : ℕ) → i < length es → IsFirstInside numbers firsts (take i es) best
    → from ≡ slice_index numbers (get_or es i d).from → to ≡ slice_index numbers (get_or es i d).to → IsTrue (get_or es i d).builds × (from ≡ to)
    → first ≡ slice_index firsts from → new ≡ Some (smaller best first) → IsFirstInside numbers firsts (take (i + 1) es) new
step_in numbers firsts es i d best new from to first less is is_from is_to inside is_first is_new =
    let new_is : new ≡ Some (smaller best (first_of numbers firsts (get_or es i d).from)) = is_new ∙ ap (λ (n : ℕ). Some (smaller best n)) (is_first ∙ ap (slice_index firsts) is_from) in
    subst (λ (o : Option ℕ). IsFirstInside numbers firsts (take (i + 1) es) o) (sym new_is)
    (inside_more numbers firsts es i d less best is (inside.0, sym is_from ∙ (inside.1 ∙ is_to)))

pub step_out : (numbers firsts : List ℕ) (es : List Edge) (i : ℕ) (d : Edge) (best new : Option ℕ) (from to : ℕ) → i < length es → IsFirstInside numbers firsts (take i es) best
    → from ≡ slice_index numbers (get_or es i d).from → to ≡ slice_index numbers (get_or es i d).to → (IsTrue (get_or es i d).builds × (from ≡ to) → ⊥)
    → new ≡ best → IsFirstInside numbers firsts (take (i + 1) es) new
step_out numbers firsts es i d best new from to less is is_from is_to out is_new =
    subst (λ (o : Option ℕ). IsFirstInside numbers firsts (take (i + 1) es) o) (sym is_new)
    (inside_same numbers firsts es i d less best is (λ inside. out (inside.0, is_from ∙ (inside.1 ∙ sym is_to))))

module _ (nodes : ℕ) (es : List Edge) (numbers firsts : List ℕ) (within : AreBetween nodes es) (are : AreCertified nodes es numbers firsts) where
  -- the edge of which a component is told to have one inside is inside by its numbers
  inside_by_numbers : (x y z : ℕ) → (b : Builds es y z) → AreTogether es x y → AreTogether es x z → IsInside numbers b.0
  inside_by_numbers x y z b xy xz =
      let ends = between nodes es within b.0 b.1 in
      let y_in : y < nodes = subst (λ (n : ℕ). n < nodes) b.3 ends.0 in
      let z_in : z < nodes = subst (λ (n : ℕ). n < nodes) b.4 ends.1 in
      let both : AreTogether es y z = (joined es xy.1 xz.0, joined es xz.1 xy.0) in
      (b.2, ap (slice_index numbers) b.3 ∙ ((are.numbering.components y z y_in z_in).0 both ∙ ap (slice_index numbers) (sym b.4)))

  pub no_cycle : IsFirstInside numbers firsts es None → HasNoBuildInside es
  no_cycle none x h = none h.2.0 h.2.1 (inside_by_numbers x h.0 h.1 h.2 h.3 h.4)

  pub cycle : (x : ℕ) → IsFirstInside numbers firsts es (Some x) → IsBuildCycle nodes es (places_of numbers (slice_index numbers x))
  cycle x found =
      let e = found.0.0 in
      let h = found.0.1 in
      let ends = between nodes es within e h in
      let long = are.numbering.each in
      let c = slice_index numbers e.from in
      let c_in : c < length firsts = (are.first_nodes e.from (omega (arith, ends.0, long))).0 in
      let mine = are.named c c_in in
      let x_in : x < nodes = subst (λ (n : ℕ). n < nodes) found.0.3 (omega (arith, mine.0, long)) in
      let at : slice_index numbers x ≡ c = ap (slice_index numbers) (sym found.0.3) ∙ mine.1 in
      record {
        first = x;
        has_build = (
          e.from,
          e.to,
          (e, h, found.0.2.0, refl, refl),
          (are.numbering.components x e.from x_in ends.0).1 at,
          (are.numbering.components x e.to x_in ends.1).1 (at ∙ found.0.2.1),
        );
        smallest = λ y y_in b.
            (let f = b.2.0 in
            let f_ends = between nodes es within f b.2.1 in
            let from = found.1 f b.2.1 (inside_by_numbers y b.0 b.1 b.2 b.3 b.4) in
            let b_in : b.0 < nodes = subst (λ (n : ℕ). n < nodes) b.2.3 f_ends.0 in
            let same : slice_index numbers f.from ≡ slice_index numbers y = ap (slice_index numbers) b.2.3 ∙ sym ((are.numbering.components y b.0 y_in b_in).0 b.3) in
            let first_same : first_of numbers firsts f.from ≡ first_of numbers firsts y = ap (slice_index firsts) same in
            let by = (are.first_nodes y (omega (arith, y_in, long))).1 in
            omega (arith, from, first_same, by));
        rising = places_rise numbers (slice_index numbers x);
        members = λ y. (
          (λ has.
              let held = place_holds numbers (slice_index numbers x) y has in
              let y_in : y < nodes = omega (arith, held.0, long) in
              (y_in, (are.numbering.components x y x_in y_in).1 (sym held.1))),
          (λ both. has_place numbers (slice_index numbers x) y (omega (arith, both.0, long)) (sym ((are.numbering.components x y x_in both.0).0 both.1))),
        );
      }
