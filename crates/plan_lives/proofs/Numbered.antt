-- The steps of a loop that lists the numbers of groups.
use Rattle.std.proofs.Common.{◌≡◌, ◌∙◌, ◌<◌, ◌≤◌, ◌+◌, ◌++◌, ℕ, List, [], ◌∷◌, add-one, ap, append_assoc, append-nil, drop, drop-cons, get_or, inl, inr, length, refl, subst, sym}
use Rattle.std.proofs.lemmas.List.{drop_all}
use Rattle.plan_law.specs.Plans.{Group}
use Rattle.plan_lives.specs.Meeting.{AreNumbers}

abbrev no_change : Group
no_change = record { after = []; removals = []; additions = [] }

module _ (P : ℕ → Type 0) (plan : List Group) where
  -- with the numbers found so far, whatever the groups from a place on give is what all give
  abbrev pub Goes : ℕ → List ℕ → Type 0
  Goes g found = (later : List ℕ) → AreNumbers P g (drop g plan) later → AreNumbers P 0 plan (found ++ later)

  one_more : (g : ℕ) → g < length plan → drop g plan ≡ get_or plan g no_change ∷ drop (g + 1) plan
  one_more g within = drop-cons plan g no_change within ∙ ap (λ (n : ℕ). get_or plan g no_change ∷ drop n plan) (sym (add-one g))

  pub goes_on : (g : ℕ) (found : List ℕ) → g < length plan → Goes g found → P g → Goes (g + 1) (found ++ (g + 1) ∷ [])
  goes_on g found within so_far holds later rest =
      subst (λ (ns : List ℕ). AreNumbers P 0 plan ns) (sym (append_assoc found ((g + 1) ∷ []) later))
      (so_far ((g + 1) ∷ later) (rw (one_more g within) (inl (later, holds, refl, rest))))

  pub goes_past : (g : ℕ) (found : List ℕ) → g < length plan → Goes g found → ¬ P g → Goes (g + 1) found
  goes_past g found within so_far other later rest = so_far later (rw (one_more g within) (inr (other, rest)))

  pub gone_through : (g : ℕ) (found : List ℕ) → length plan ≤ g → Goes g found → AreNumbers P 0 plan found
  gone_through g found past so_far =
      subst (λ (ns : List ℕ). AreNumbers P 0 plan ns) (append-nil found) (so_far [] (rw (drop_all g plan past) refl))
