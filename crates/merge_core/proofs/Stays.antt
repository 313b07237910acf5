-- Groups whose gates were put stay so, with what they do.
use Rattle.std.proofs.Common.{◌≡◌, ◌∙◌, ℕ, List, true, false, ap, refl, sym}
use Rattle.merge_journal.specs.Group.{Group}
use Rattle.merge_core.specs.Phase.{Phase, was_opened}
use Rattle.merge_core.specs.Roll.{Roll, Standing, group_at, group_of, phase_at}
use Rattle.merge_core.proofs.Standings.{by_group, set_with}

-- each group whose gate was put is such a group in the second roll, and does the same there
abbrev pub Stays : Roll → Roll → Type 0
Stays r s = (g : ℕ) → was_opened (phase_at r g) ≡ true → (was_opened (phase_at s g) ≡ true) × (group_at s g ≡ group_at r g)

pub same_stays : (r : Roll) → Stays r r
same_stays r g o = (o, refl)

pub stays_then : (r s t : Roll) → Stays r s → Stays s t → Stays r t
stays_then r s t a b g o = let k = a g o in let n = b g k.0 in (n.0, n.1 ∙ k.1)

-- the standing of one group changes, in which it stays
pub on_stays : (r : Roll) (g : ℕ) (s : Standing) (order : List Group) → (was_opened (phase_at r g) ≡ true → (was_opened s.phase ≡ true) × (group_of g s ≡ group_at r g)) → Stays r (set_with r g s order)
on_stays r g s order here = by_group (λ h x. was_opened (phase_at r h) ≡ true → (was_opened x.phase ≡ true) × (group_of h x ≡ group_at r h)) r g s here (λ h ne o. (o, refl))

-- its gate wasn't put yet
pub shut_stays : (r : Roll) (g : ℕ) (s : Standing) (order : List Group) (p : Phase) → phase_at r g ≡ p → was_opened p ≡ false → Stays r (set_with r g s order)
shut_stays r g s order p e shut = on_stays r g s order (λ o. let k = sym o ∙ ap was_opened e in absurd (cc (k, shut)))
