-- The first clearing of a line is a moment at which it is cleared, and the only one.
use Rattle.std.proofs.Common.{◌≡◌, ◌+◌, ◌-◌, ◌∙◌, ℕ, suc, Bool, true, false, cond, List, [], ◌∷◌, refl, ap, arith}
use Rattle.plan_law.specs.Plans.{Group, clears, group_at}
use Rattle.plan_law.specs.Lives.{IsCleared, Moment, commit, never, opening}
use Rattle.plan_law.proofs.Cleared.{one_less}
use Rattle.plan_lives.specs.Lives.{clearing}

-- these groups stand in the plan from a place on
abbrev pub Stands : List Group → ℕ → List Group → Type 0
Stands plan from rest = (h i : ℕ) → h ≡ from + i → group_at plan h ≡ group_at rest i

pub all_stand : (plan : List Group) → Stands plan 0 plan
all_stand plan h i e = ap (group_at plan) (let k : h ≡ i = omega (arith, e) in k)

pub rest_stands : (plan : List Group) (from : ℕ) (group : Group) (rest : List Group) → Stands plan from (group ∷ rest) → Stands plan (from + 1) rest
rest_stands plan from group rest s h i e = s h (suc i) (omega (arith, e))

pub stands_here : (plan : List Group) (from : ℕ) (group : Group) (rest : List Group) → Stands plan from (group ∷ rest) → group_at plan from ≡ group
stands_here plan from group rest s = s from 0 (omega arith)

module _ (plan : List Group) (line : List ℕ) where
  clearing_step : (group : Group) (rest : List Group) (from : ℕ) (b : Bool) → group_at plan from ≡ group → clears group line ≡ b → IsCleared plan (from + 1) line (clearing rest (from + 1) line) → IsCleared plan from line (cond b (commit from) (clearing rest (from + 1) line))
  clearing_step group rest from true here e later = (omega arith, ap (λ (x : Group). clears x line) here ∙ e, λ h le k. le)
  clearing_step group rest from false here e later = one_less plan line from (ap (λ (x : Group). clears x line) here ∙ e) (clearing rest (from + 1) line) later

  pub clearing_is : (rest : List Group) (from : ℕ) → Stands plan from rest → IsCleared plan from line (clearing rest from line)
  clearing_is [] from s = λ h le e. absurd (let none : clears (group_at plan h) line ≡ false = ap (λ (x : Group). clears x line) (s h (h - from) (omega (arith, le))) in cc (none, e))
  clearing_is (group ∷ rest) from s = clearing_step group rest from (clears group line) (stands_here plan from group rest s) refl (clearing_is rest (from + 1) (rest_stands plan from group rest s))

  pub one_clearing : (from : ℕ) (m n : Moment) → IsCleared plan from line m → IsCleared plan from line n → m ≡ n
  one_clearing from opening n c d = absurd c
  one_clearing from (commit g) opening c d = absurd d
  one_clearing from (commit g) (commit h) c d = ap commit (let a = c.2 h d.0 d.1 in let b = d.2 g c.0 c.1 in let e : g ≡ h = omega (arith, a, b) in e)
  one_clearing from (commit g) never c d = absurd (d g c.0 c.1)
  one_clearing from never opening c d = absurd d
  one_clearing from never (commit h) c d = absurd (c h d.0 d.1)
  one_clearing from never never c d = refl
