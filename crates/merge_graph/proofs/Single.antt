-- One numbering, and one level of each component.
use Rattle.std.proofs.Common.{◌≡◌, ◌∙◌, ◌<◌, ◌+◌, ℕ, zero, suc, List, arith, inl, inr, subst, sym}
use Rattle.std.specs.Prelude.{slice_index}
use Rattle.std.proofs.lemmas.Bool.{cases_order}
use Rattle.std.proofs.lemmas.List.{ext_get_or}
use Rattle.merge_graph.specs.Edges.{AreBetween}
use Rattle.merge_graph.specs.Laws.{LevelsAreOne, NumbersAreOne, WaitsFall}
use Rattle.merge_graph.specs.Numbering.{IsNumbering, IsReady}
use Rattle.merge_graph.specs.declared.edge.Edge.{Edge}
use Rattle.merge_graph.proofs.Together.{between}

-- the one numbering has the numbers of the other one, below this
abbrev Agrees : ℕ → List ℕ → List ℕ → ℕ → Type 0
Agrees nodes ns ms k = (z : ℕ) → z < nodes → slice_index ns z < k → slice_index ms z ≡ slice_index ns z

module _ (nodes : ℕ) (es : List Edge) (within : AreBetween nodes es) where
  -- what has its turn in the one is ready in the other one
  ready_of : (count other : ℕ) (ns ms : List ℕ) → IsNumbering nodes es count ns → IsNumbering nodes es other ms → (k : ℕ) → Agrees nodes ns ms k → (x : ℕ) → x < nodes → slice_index ns x ≡ k → IsReady es ms k x
  ready_of count other ns ms nn mm k agrees x x_in at y z t g =
      let ends = between nodes es within g.0 g.1 in
      let y_in : y < nodes = subst (λ (n : ℕ). n < nodes) g.2 ends.0 in
      let z_in : z < nodes = subst (λ (n : ℕ). n < nodes) g.3 ends.1 in
      let same = (nn.components x y x_in y_in).0 t in
      let down = nn.falls y z g in
      elim (cases_order (slice_index ns z) k) [
        | inl now ↦ inl ((nn.components x z x_in z_in).1 (at ∙ sym now))
        | inr (inl below) ↦ inr (let e = agrees z z_in below in omega (arith, e, below))
        | inr (inr above) ↦ absurd (omega (arith, above, down, same, at))
      ]

  module _ (count other : ℕ) (ns ms : List ℕ) (nn : IsNumbering nodes es count ns) (mm : IsNumbering nodes es other ms) (k : ℕ) (there : Agrees nodes ns ms k) (back : Agrees nodes ms ns k) where
    -- a node with this number here and a later one there has a smaller one beside it that is so
    descends : (fuel x : ℕ) → x < fuel → x < nodes → slice_index ns x ≡ k → k < slice_index ms x → ⊥
    descends zero x less x_in at later = omega (arith, less)
    descends (suc fuel) x less x_in at later =
        let m = mm.smallest x k x_in later (ready_of count other ns ms nn mm k there x x_in at) in
        let m_later : k < slice_index ns m.0 = elim (cases_order (slice_index ns m.0) k) [
          | inl now ↦ absurd (let e = (mm.components m.0 x m.1 x_in).0 ((nn.components m.0 x m.1 x_in).1 (now ∙ sym at)) in omega (arith, e, m.2, later))
          | inr (inl below) ↦ absurd (let e = there m.0 m.1 below in omega (arith, e, m.2, below))
          | inr (inr above) ↦ above
        ] in
        let c = nn.smallest m.0 k m.1 m_later (ready_of other count ms ns mm nn k back m.0 m.1 m.2) in
        let same = (mm.components c.0 x c.1 x_in).0 ((nn.components c.0 x c.1 x_in).1 (c.2 ∙ sym at)) in
        let c_later : k < slice_index ms c.0 = omega (arith, same, later) in
        let lower : c.0 < fuel = omega (arith, c.3, m.3, less) in
        descends fuel c.0 lower c.1 c.2 c_later

    one_more : Agrees nodes ns ms (k + 1)
    one_more z z_in less = elim (cases_order (slice_index ns z) k) [
      | inl now ↦ (elim (cases_order (slice_index ms z) k) [
        | inl same ↦ same ∙ sym now
        | inr (inl below) ↦ absurd (let e = back z z_in below in omega (arith, e, now, below))
        | inr (inr above) ↦ absurd (descends (z + 1) z (omega arith) z_in now above)
      ])
      | inr (inl below) ↦ there z z_in below
      | inr (inr above) ↦ absurd (omega (arith, less, above))
    ]

  agree : (count other : ℕ) (ns ms : List ℕ) → IsNumbering nodes es count ns → IsNumbering nodes es other ms → (k : ℕ) → Agrees nodes ns ms k × Agrees nodes ms ns k
  agree count other ns ms nn mm zero = ((λ z z_in less. absurd (omega (arith, less))), (λ z z_in less. absurd (omega (arith, less))))
  agree count other ns ms nn mm (suc k) =
      let both = agree count other ns ms nn mm k in (
        (λ z z_in less. one_more count other ns ms nn mm k both.0 both.1 z z_in (omega (arith, less))),
        (λ z z_in less. one_more other count ms ns mm nn k both.1 both.0 z z_in (omega (arith, less))),
      )

pub numbers_one : NumbersAreOne
numbers_one nodes es count other ns ms within nn mm =
    ext_get_or 0 ns ms (nn.each ∙ sym mm.each) (λ z less.
    (let z_in : z < nodes = omega (arith, less, nn.each) in
    sym ((agree nodes es within count other ns ms nn mm (slice_index ns z + 1)).0 z z_in (omega arith))))

pub waits_below : WaitsFall
waits_below nodes es count numbers k j after nn is has =
    let w = (is.members j).0 has in
    let down = nn.falls w.1 w.2 w.3 in
    let apart = w.0 in
    omega (arith, down, w.4, w.5, apart)

pub levels_one : LevelsAreOne
levels_one es numbers count levels others are other_are =
    ext_get_or 0 levels others (are.each ∙ sym other_are.each) (λ k less.
    (let k_in : k < count = omega (arith, less, are.each) in
    let low = are.lowest (slice_index others) other_are.high k k_in in
    let high = other_are.lowest (slice_index levels) are.high k k_in in
    omega (arith, low, high)))
