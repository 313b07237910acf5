-- Which nodes are reached from which, one edge after another.
use Rattle.std.proofs.Common.{◌≡◌, ◌∙◌, ◌<◌, ◌≤◌, ◌+◌, ◌⊎◌, ◌++◌, ◌&&◌, ◌==◌, ℕ, Bool, false, List, [], ◌∷◌, ap, arith, get_or, inl, inr, length, refl, subst, sym, take}
use Rattle.std.proofs.lemmas.Bool.{and_from, and_parts, cases_order, eq-eqb, eqb-true, or_cases, or_left, or_right}
use Rattle.std.proofs.lemmas.List.{get_or_append_left, get_or_at, get_or_default, length_push, take_all}
use Rattle.basics.specs.Members.{Has}
use Rattle.basics.proofs.Membership.{has-at}
use Rattle.merge_graph.specs.Closure.{IsClosure, IsRow, IsTable, reached, reached_with}
use Rattle.merge_graph.specs.Edges.{AreBetween, Goes, Reaches}
use Rattle.merge_graph.specs.Edges.Reaches.{goes, stays}
use Rattle.merge_graph.specs.declared.edge.Edge.{Edge}
use Rattle.merge_graph.proofs.Checking.{has_before, has_last, has_more, joined}
use Rattle.merge_graph.proofs.Together.{between}

pub row_none : (f : ℕ → Bool) (row : List Bool) → row ≡ [] → IsRow 0 f row
row_none f row is = record { each = ap length is; is = λ y less. absurd (omega (arith, less)) }

pub row_more : (n : ℕ) (f : ℕ → Bool) (row : List Bool) (b : Bool) → IsRow n f row → b ≡ f n → IsRow (n + 1) f (row ++ b ∷ [])
row_more n f row b is same = record {
  each = length_push row b ∙ ap (λ (m : ℕ). m + 1) is.each;
  is = λ y less. elim (cases_order y n) [
    | inl now ↦ get_or_at row b [] false y (is.each ∙ sym now) ∙ (same ∙ ap f (sym now))
    | inr (inl before) ↦ get_or_append_left row (b ∷ []) false y (omega (arith, before, is.each)) ∙ is.is y before
    | inr (inr after) ↦ absurd (omega (arith, less, after))
  ];
}

pub table_none : (nodes : ℕ) (f : ℕ → ℕ → Bool) (rows : List (List Bool)) → rows ≡ [] → IsTable 0 nodes f rows
table_none nodes f rows is = record { each = ap length is; row = λ x less. absurd (omega (arith, less)) }

pub table_more : (n nodes : ℕ) (f : ℕ → ℕ → Bool) (rows : List (List Bool)) (row : List Bool) → IsTable n nodes f rows → IsRow nodes (f n) row → IsTable (n + 1) nodes f (rows ++ row ∷ [])
table_more n nodes f rows row is one = record {
  each = length_push rows row ∙ ap (λ (m : ℕ). m + 1) is.each;
  row = λ x less. elim (cases_order x n) [
    | inl now ↦ subst (λ (r : List Bool). IsRow nodes (f x) r) (sym (get_or_at rows row [] [] x (is.each ∙ sym now))) (subst (λ (m : ℕ). IsRow nodes (f m) row) (sym now) one)
    | inr (inl before) ↦ subst (λ (r : List Bool). IsRow nodes (f x) r) (sym (get_or_append_left rows (row ∷ []) [] x (omega (arith, before, is.each)))) (is.row x before)
    | inr (inr after) ↦ absurd (omega (arith, less, after))
  ];
}

-- more edges lead as far
pub wider : (es fs : List Edge) → ((e : Edge) → Has es e → Has fs e) → {x y : ℕ} → Reaches es x y → Reaches fs x y
wider es fs more stays = stays
wider es fs more (goes g r) = goes (g.0, more g.0 g.1, g.2, g.3) (wider es fs more r)

-- a way goes along an edge, or not
pub along : (es fs : List Edge) (e : Edge) → ((f : Edge) → Has fs f → Has es f ⊎ (e ≡ f)) → {x y : ℕ} → Reaches fs x y → Reaches es x y ⊎ (Reaches es x e.from × Reaches es e.to y)
along es fs e each stays = inl stays
along es fs e each {y = z} (goes g r) = elim (each g.0 g.1) [
  | inl old ↦ (elim (along es fs e each r) [
    | inl later ↦ inl (goes (g.0, old, g.2, g.3) later)
    | inr both ↦ inr (goes (g.0, old, g.2, g.3) both.0, both.1)
  ])
  | inr new ↦ (
      let from = ap (λ (f : Edge). f.from) new ∙ g.2 in
      let to = ap (λ (f : Edge). f.to) new ∙ g.3 in
      let start = subst (λ (n : ℕ). Reaches es n e.from) from stays in
      elim (along es fs e each r) [
        | inl later ↦ inr (start, subst (λ (n : ℕ). Reaches es n z) (sym to) later)
        | inr both ↦ inr (start, both.1)
      ]
      )
]

nowhere : {x y : ℕ} → Reaches [] x y → x ≡ y
nowhere stays = refl
nowhere (goes g r) = absurd g.1

pub closed_none : (nodes : ℕ) (rows : List (List Bool)) → IsTable nodes nodes (λ x y. x == y) rows → IsClosure nodes [] rows
closed_none nodes rows is = record {
  each = is.each;
  long = λ x less. (is.row x less).each;
  sound = λ x y x_in y_in on. subst (λ (n : ℕ). Reaches [] x n) (eqb-true x y (sym ((is.row x x_in).is y y_in) ∙ on)) stays;
  complete = λ x y x_in y_in r. (is.row x x_in).is y y_in ∙ eq-eqb x y (nowhere r);
}

pub closed_more : (nodes : ℕ) (es : List Edge) (i : ℕ) (d : Edge) (from to : ℕ) (old read new : List (List Bool)) → AreBetween nodes es → i < length es → from ≡ (get_or es i d).from → to ≡ (get_or es i d).to
    → IsClosure nodes (take i es) old → read ≡ old → IsTable nodes nodes (reached_with read from to) new → IsClosure nodes (take (i + 1) es) new
closed_more nodes es i d from to old read new within less is_from is_to was same is_read =
    let e = get_or es i d in
    let ends = between nodes es within e (has-at es i e less (get_or_default es i d e less)) in
    let is : IsTable nodes nodes (reached_with old from to) new = subst (λ (l : List (List Bool)). IsTable nodes nodes (reached_with l from to) new) same is_read in
    let from_in : from < nodes = subst (λ (n : ℕ). n < nodes) (sym is_from) ends.0 in
    let to_in : to < nodes = subst (λ (n : ℕ). n < nodes) (sym is_to) ends.1 in
    let more : (f : Edge) → Has (take i es) f → Has (take (i + 1) es) f = λ f h. has_before es i d f less h in
    let step : Goes (take (i + 1) es) from to = (e, has_last es i d less, sym is_from, sym is_to) in
    record {
      each = is.each;
      long = λ x x_in. (is.row x x_in).each;
      sound = λ x y x_in y_in on. elim (or_cases (reached old x y) (reached old x from && reached old to y) (sym ((is.row x x_in).is y y_in) ∙ on)) [
        | inl before ↦ wider (take i es) (take (i + 1) es) more (was.sound x y x_in y_in before)
        | inr both ↦ (
            let parts = and_parts (reached old x from) (reached old to y) both in
            let first = wider (take i es) (take (i + 1) es) more (was.sound x from x_in from_in parts.0) in
            let second = wider (take i es) (take (i + 1) es) more (was.sound to y to_in y_in parts.1) in
            joined (take (i + 1) es) first (goes step second)
            )
      ];
      complete = λ x y x_in y_in r. (is.row x x_in).is y y_in ∙ elim (along (take i es) (take (i + 1) es) e (λ f h. has_more es i d f less h) r) [
        | inl before ↦ or_left (reached old x y) (reached old x from && reached old to y) (was.complete x y x_in y_in before)
        | inr both ↦ or_right (reached old x y) (reached old x from && reached old to y)
            (and_from (reached old x from) (reached old to y)
            (was.complete x from x_in from_in (subst (λ (n : ℕ). Reaches (take i es) x n) (sym is_from) both.0))
            (was.complete to y to_in y_in (subst (λ (n : ℕ). Reaches (take i es) n y) (sym is_to) both.1)))
      ];
    }

pub closed_all : (nodes : ℕ) (es : List Edge) (i : ℕ) (rows : List (List Bool)) → length es ≤ i → IsClosure nodes (take i es) rows → IsClosure nodes es rows
closed_all nodes es i rows past is = subst (λ (fs : List Edge). IsClosure nodes fs rows) (take_all i es past) is
