-- A number for the nodes of one component, node after node.
use Rattle.std.proofs.Common.{◌≡◌, ◌∙◌, ◌<◌, ◌≤◌, ◌+◌, ℕ, Bool, true, false, cond, List, Option, None, Some, ap, arith, inl, inr, length, set, sym}
use Rattle.std.proofs.lemmas.Bool.{cases_order, cond-false, cond-true}
use Rattle.std.proofs.lemmas.List.{get_or-set_other, get_or-set_same, length-set}
use Rattle.merge_graph.specs.Closure.{given_to, in_one}

-- those below have it where they are in the component, and the others are as they were
pub record IsGivenBelow (rows : List (List Bool)) (first number i : ℕ) (old new : List (Option ℕ)) : Type 0 where
  pub all : length new ≡ length old
  pub below : (y : ℕ) → y < i → given_to new y ≡ cond (in_one rows first y) (Some number) (given_to old y)
  pub above : (y : ℕ) → i ≤ y → given_to new y ≡ given_to old y

pub given_in : (rows : List (List Bool)) (first number i : ℕ) (old new later : List (Option ℕ)) → i < length old → IsGivenBelow rows first number i old new → in_one rows first i ≡ true
    → later ≡ set new i (Some number) → IsGivenBelow rows first number (i + 1) old later
given_in rows first number i old new later less is on same =
    let in_new : i < length new = omega (arith, less, is.all) in
    let at : (y : ℕ) → given_to later y ≡ given_to (set new i (Some number)) y = λ y. ap (λ (l : List (Option ℕ)). given_to l y) same in
    record {
      all = ap length same ∙ (length-set new i (Some number) ∙ is.all);
      below = λ y low. elim (cases_order y i) [
        | inl now ↦ at y ∙ (ap (given_to (set new i (Some number))) now ∙ (get_or-set_same new i (Some number) None in_new ∙ sym (cond-true (in_one rows first y) (Some number) (given_to old y) (ap (in_one rows first) now ∙ on))))
        | inr (inl before) ↦ at y ∙ (get_or-set_other new i y (Some number) None (λ e. absurd (omega (arith, e, before))) ∙ is.below y before)
        | inr (inr after) ↦ absurd (omega (arith, low, after))
      ];
      above = λ y high. at y ∙ (get_or-set_other new i y (Some number) None (λ e. absurd (omega (arith, e, high))) ∙ is.above y (omega (arith, high)));
    }

pub given_out : (rows : List (List Bool)) (first number i : ℕ) (old new later : List (Option ℕ)) → IsGivenBelow rows first number i old new → in_one rows first i ≡ false
    → later ≡ new → IsGivenBelow rows first number (i + 1) old later
given_out rows first number i old new later is off same =
    let at : (y : ℕ) → given_to later y ≡ given_to new y = λ y. ap (λ (l : List (Option ℕ)). given_to l y) same in
    record {
      all = ap length same ∙ is.all;
      below = λ y low. elim (cases_order y i) [
        | inl now ↦ at y ∙ (ap (given_to new) now ∙ (is.above i (omega arith) ∙ (ap (given_to old) (sym now) ∙ sym (cond-false (in_one rows first y) (Some number) (given_to old y) (ap (in_one rows first) now ∙ off)))))
        | inr (inl before) ↦ at y ∙ is.below y before
        | inr (inr after) ↦ absurd (omega (arith, low, after))
      ];
      above = λ y high. at y ∙ is.above y (omega (arith, high));
    }
