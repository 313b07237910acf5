-- Checked numbers are those of the components.
use Rattle.std.proofs.Common.{◌≡◌, ◌≢◌, ◌∙◌, ◌<◌, ◌≤◌, ◌↔◌, ℕ, List, [], ◌∷◌, ap, arith, inl, inr, length, map, refl, subst, sym}
use Rattle.std.specs.Prelude.{nat_lt, slice_index}
use Rattle.std.specs.List.{list_all}
use Rattle.std.proofs.lemmas.Bool.{and_parts, ltb-true}
use Rattle.basics.specs.Members.{Has}
use Rattle.basics.proofs.Membership.{has-map_back}
use Rattle.merge_graph.specs.Certified.{AllFall, AreApart, AreCertified, AreComponents, ComeInOrder, HaveFirsts, HaveNumbers, first_of}
use Rattle.merge_graph.specs.Edges.{AreBetween, AreTogether, Reaches, is_between, turned}
use Rattle.merge_graph.specs.Edges.Reaches.{goes, stays}
use Rattle.merge_graph.specs.Numbering.{IsReady}
use Rattle.merge_graph.specs.declared.edge.Edge.{Edge}
use Rattle.merge_graph.proofs.Checking.{further, joined}

-- both ends of an edge are nodes
pub between : (nodes : ℕ) (es : List Edge) → AreBetween nodes es → (e : Edge) → Has es e → (e.from < nodes) × (e.to < nodes)
between nodes [] all e h = absurd h
between nodes (f ∷ es) all e h =
    let parts = and_parts (is_between nodes f) (list_all (is_between nodes) es) all in
    let ends = and_parts (nat_lt f.from nodes) (nat_lt f.to nodes) parts.0 in
    elim h [
      | inl same ↦ subst (λ (g : Edge). (g.from < nodes) × (g.to < nodes)) same (ltb-true f.from nodes ends.0, ltb-true f.to nodes ends.1)
      | inr later ↦ between nodes es parts.1 e later
    ]

-- a way along turned edges is one back
pub way_back : (es : List Edge) {x y : ℕ} → Reaches (map turned es) x y → Reaches es y x
way_back es stays = stays
way_back es (goes g r) =
    let b = has-map_back turned es g.0 g.1 in
    further es (way_back es r) (b.0, b.1, ap (λ (f : Edge). f.to) b.2 ∙ g.3, ap (λ (f : Edge). f.from) b.2 ∙ g.2)

-- numbers don't rise along edges
pub falls_along : (numbers : List ℕ) (es : List Edge) → AllFall numbers es → {x y : ℕ} → Reaches es x y → slice_index numbers y ≤ slice_index numbers x
falls_along numbers es fall stays = omega arith
falls_along numbers es fall (goes g r) =
    let later = falls_along numbers es fall r in
    let now = fall g.0 g.1 in
    let from : slice_index numbers g.0.from ≡ _ = ap (slice_index numbers) g.2 in
    let to : slice_index numbers g.0.to ≡ _ = ap (slice_index numbers) g.3 in
    omega (arith, later, now, from, to)

module _ (nodes : ℕ) (es : List Edge) (numbers firsts : List ℕ) (within : AreBetween nodes es) (each : length numbers ≡ nodes)
    (have : HaveFirsts numbers firsts) (named : HaveNumbers numbers firsts) (are : AreComponents numbers firsts es) where
  to_first : (x : ℕ) → x < nodes → Reaches es x (first_of numbers firsts x)
  to_first x less = way_back es (are.reaching x (omega (arith, less, each)))

  from_first : (x : ℕ) → x < nodes → Reaches es (first_of numbers firsts x) x
  from_first x less = are.reached x (omega (arith, less, each))

  -- nodes with one number reach each other
  reach_by_number : (x y : ℕ) → x < nodes → y < nodes → slice_index numbers x ≡ slice_index numbers y → Reaches es x y
  reach_by_number x y x_in y_in same =
      joined es (subst (λ (n : ℕ). Reaches es x n) (ap (slice_index firsts) same) (to_first x x_in)) (from_first y y_in)

  pub together : (x y : ℕ) → x < nodes → y < nodes → AreTogether es x y ↔ (slice_index numbers x ≡ slice_index numbers y)
  together x y x_in y_in = (
    (λ both. let a = falls_along numbers es are.fall both.0 in let b = falls_along numbers es are.fall both.1 in omega (arith, a, b)),
    (λ same. (reach_by_number x y x_in y_in same, reach_by_number y x y_in x_in (sym same))),
  )

  smallest : ComeInOrder numbers firsts es → (x k : ℕ) → x < nodes → k < slice_index numbers x → IsReady es numbers k x → (y : ℕ) × (y < nodes) × (slice_index numbers y ≡ k) × (y < x)
  smallest come x k x_in below ready =
      let c = slice_index numbers x in
      let at = have x (omega (arith, x_in, each)) in
      let waits : (e : Edge) → Has es e → slice_index numbers e.from ≡ c → slice_index numbers e.to ≢ c → slice_index numbers e.to < k = λ e h from to.
      (let ends = between nodes es within e h in
      elim (ready e.from e.to ((together x e.from x_in ends.0).1 (sym from)) (e, h, refl, refl)) [
        | inl mine ↦ absurd (to (sym ((together x e.to x_in ends.1).0 mine)))
        | inr less ↦ less
      ]) in
      let opens = come.1 c k waits in
      let before = come.2 k c at.0 below opens in
      let k_in : k < length firsts = omega (arith, below, at.0) in
      let mine = named k k_in in
      let node_in : slice_index firsts k < nodes = omega (arith, mine.0, each) in
      let less : slice_index firsts k < x = omega (arith, before, at.1) in
      (slice_index firsts k, node_in, mine.1, less)

  pub certified : ComeInOrder numbers firsts es → AreCertified nodes es numbers firsts
  certified come = record {
    numbering = record {
      each = each;
      below = λ x less. (have x (omega (arith, less, each))).0;
      no_gap = λ k less. (let mine = named k less in let node_in : slice_index firsts k < nodes = omega (arith, mine.0, each) in (slice_index firsts k, node_in, mine.1));
      components = together;
      falls = λ x y g. falls_along numbers es are.fall (goes g stays);
      smallest = smallest come;
    };
    first_nodes = have;
    named = named;
  }

pub named_apart : (numbers firsts : List ℕ) → HaveNumbers numbers firsts → AreApart firsts
named_apart numbers firsts named j k j_in k_in same =
    sym (named j j_in).1 ∙ (ap (slice_index numbers) same ∙ (named k k_in).1)
