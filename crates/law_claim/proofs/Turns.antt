-- Of two groups under way none changes a line of the other.
use Rattle.std.proofs.Common.{◌≡◌, ◌⊎◌, ◌∙◌, ℕ, true, List, inl, inr, refl, sym, ap}
use Rattle.std.proofs.lemmas.Bool.{cases_order}
use Rattle.merge_core.specs.Phase.{Phase, Idle, Building, Recorded, Marked, Sealed, Claimed, GatePut, Open, Placed, GateTaken, Done, Told, Abandoned, Redo, Redone, Odd, Emptied, has_begun}
use Rattle.merge_core.specs.Roll.{Roll, phase_at}
use Rattle.merge_core.specs.Runs.{IsFollowing}
use Rattle.plan_law.specs.Plans as plans
use Rattle.plan_law.specs.Plans.{before, itself}
use Rattle.law_commit.specs.Claims.{is_granted}
use Rattle.law_claim.specs.Turns.{GrantedLinesAreApart}

granted_begun : (p : Phase) → is_granted p ≡ true → has_begun p ≡ true
granted_begun Claimed e = refl
granted_begun GatePut e = refl
granted_begun Open e = refl
granted_begun Idle e = absurd (cc e)
granted_begun Building e = refl
granted_begun Recorded e = refl
granted_begun Marked e = refl
granted_begun Sealed e = refl
granted_begun Placed e = refl
granted_begun GateTaken e = refl
granted_begun Done e = refl
granted_begun Told e = refl
granted_begun Abandoned e = refl
granted_begun Redo e = refl
granted_begun Redone e = refl
granted_begun Odd e = refl
granted_begun Emptied e = refl

-- a group whose claim is granted isn't told
granted_untold : (p : Phase) → is_granted p ≡ true → ¬ (p ≡ Told)
granted_untold p e told = let k = sym e ∙ ap is_granted told in cc k

-- what a group that has begun waits for is told
reaches_told : (plan : List plans.Group) (r : Roll) (h g : ℕ) → IsFollowing (λ i. (plans.group_at plan i).after) r → has_begun (phase_at r h) ≡ true → plans.Reaches plan h g
    → (g ≡ h) ⊎ (phase_at r g ≡ Told)
reaches_told plan r h g follows begun itself = inl refl
reaches_told plan r h g follows begun (before x y has reach) = elim (reaches_told plan r h x follows begun reach) [
  | inl same ↦ inr (follows.told x y (ap (λ (n : ℕ). has_begun (phase_at r n)) same ∙ begun) has)
  | inr told ↦ inr (follows.told x y (ap has_begun told) has)
]

pub granted_lines_are_apart : GrantedLinesAreApart
granted_lines_are_apart plan start r g h line accepted follows mine other differ changes too =
    elim (cases_order g h) [
      | inl same ↦ differ same
      | inr (inl less) ↦ either (accepted.ordered g h line less changes too)
      | inr (inr more) ↦ either (swapped (accepted.ordered h g line more too changes))
    ]
  where
    -- one of the two waits for the other, which is told, or is the other
    never : (i j : ℕ) → is_granted (phase_at r i) ≡ true → is_granted (phase_at r j) ≡ true → ¬ (i ≡ j) → ¬ plans.Reaches plan j i
    never i j a b ne reach = elim (reaches_told plan r j i follows (granted_begun (phase_at r j) b) reach) [
      | inl same ↦ ne same
      | inr told ↦ granted_untold (phase_at r i) a told
    ]

    either : plans.Reaches plan h g ⊎ plans.Reaches plan g h → ⊥
    either (inl reach) = never g h mine other differ reach
    either (inr reach) = never h g other mine (λ e. differ (sym e)) reach

    swapped : plans.Reaches plan g h ⊎ plans.Reaches plan h g → plans.Reaches plan h g ⊎ plans.Reaches plan g h
    swapped (inl reach) = inr reach
    swapped (inr reach) = inl reach
