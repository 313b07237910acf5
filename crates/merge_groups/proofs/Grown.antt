-- Groups that are made one after another.
use Rattle.std.proofs.Common.{◌≡◌, ◌∙◌, ◌<◌, ◌+◌, ◌++◌, ℕ, List, [], ◌∷◌, ap, arith, get_or, inl, inr, subst, sym}
use Rattle.std.proofs.lemmas.Bool.{cases_order}
use Rattle.std.proofs.lemmas.List.{get_or_append_left, get_or_at, length_push}
use Rattle.plan_law.specs.Plans.{Group, group_at, no_group}
use Rattle.merge_edges.specs.Changes.{Change as LineChange}
use Rattle.merge_groups.specs.Grouped.{Makes, before}
use Rattle.merge_groups.specs.Rows.{AreGroups, AreWaiting}

module _ (cs : List LineChange) (rows afters : List (List ℕ)) (n : ℕ) (plan : List Group) (g : Group) (are : AreGroups cs rows afters n plan) where
  at_last : (k : ℕ) → k ≡ n → group_at (plan ++ g ∷ []) k ≡ g
  at_last k same = get_or_at plan g [] no_group k (are.each ∙ sym same)

  at_before : (k : ℕ) → k < n → group_at (plan ++ g ∷ []) k ≡ group_at plan k
  at_before k below = get_or_append_left plan (g ∷ []) no_group k (omega (arith, below, are.each))

  pub groups_more : Makes cs (get_or rows n []) g → g.after ≡ get_or afters n [] → AreGroups cs rows afters (n + 1) (plan ++ g ∷ [])
  groups_more makes waits = record {
    each = length_push plan g ∙ ap (λ (m : ℕ). m + 1) are.each;
    makes = λ k less. elim (cases_order k n) [
      | inl same ↦ subst (λ (h : Group). Makes cs (get_or rows k []) h) (sym (at_last k same)) (subst (λ (m : ℕ). Makes cs (get_or rows m []) g) (sym same) makes)
      | inr (inl below) ↦ subst (λ (h : Group). Makes cs (get_or rows k []) h) (sym (at_before k below)) (are.makes k below)
      | inr (inr above) ↦ absurd (omega (arith, less, above))
    ];
    waits = λ k less. elim (cases_order k n) [
      | inl same ↦ ap (λ (h : Group). h.after) (at_last k same) ∙ (waits ∙ ap (λ (m : ℕ). get_or afters m []) (sym same))
      | inr (inl below) ↦ ap (λ (h : Group). h.after) (at_before k below) ∙ are.waits k below
      | inr (inr above) ↦ absurd (omega (arith, less, above))
    ];
  }

pub befores_more : (n : ℕ) (all : List (List ℕ)) (one : List ℕ) → AreWaiting n all → one ≡ before n → AreWaiting (n + 1) (all ++ one ∷ [])
befores_more n all one are is = record {
  each = length_push all one ∙ ap (λ (m : ℕ). m + 1) are.each;
  row = λ k less. elim (cases_order k n) [
    | inl same ↦ get_or_at all one [] [] k (are.each ∙ sym same) ∙ (is ∙ ap before (sym same))
    | inr (inl below) ↦ get_or_append_left all (one ∷ []) [] k (omega (arith, below, are.each)) ∙ are.row k below
    | inr (inr above) ↦ absurd (omega (arith, less, above))
  ];
}
