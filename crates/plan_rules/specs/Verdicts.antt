-- A verdict is None, where all is well, or Some refusal. A rule tells which verdict it gives, and
-- rules are tried in order: the first that refuses is heard.
use Rattle.std.specs.Prelude.{◌≡◌, ◌⊎◌, ℕ, ◌+◌, List, [], ◌∷◌, Option, None, Some, ⊤}

-- all is well
abbrev pub nothing : {E : Type 0} → Option E → Type 0
nothing None = ⊤
nothing (Some e) = ⊥

-- refuses with what is given
abbrev pub fail : {E : Type 0} → E → Option E → Type 0
fail e None = ⊥
fail e (Some f) = f ≡ e

-- refuses with what is given exactly where the fact fails
abbrev pub demand : {E : Type 0} → Type 0 → E → Option E → Type 0
demand fact e None = fact
demand fact e (Some f) = (¬ fact) × (f ≡ e)

-- refuses exactly where the fact fails, with something that fits
abbrev pub demand_as : {E : Type 0} → Type 0 → (E → Type 0) → Option E → Type 0
demand_as fact Fits None = fact
demand_as fact Fits (Some f) = (¬ fact) × Fits f

-- refuses with what is given exactly where the fact holds
abbrev pub refuse : {E : Type 0} → Type 0 → E → Option E → Type 0
refuse fact e None = ¬ fact
refuse fact e (Some f) = fact × (f ≡ e)

-- the first rule, and the second where the first lets pass
abbrev pub both : {E : Type 0} → (Option E → Type 0) → (Option E → Type 0) → Option E → Type 0
both first second None = first None × second None
both first second (Some e) = first (Some e) ⊎ (first None × second (Some e))

-- a rule for each of a list, in its order
abbrev pub each : {A E : Type 0} → List A → (A → Option E → Type 0) → Option E → Type 0
each [] rule = nothing
each (x ∷ xs) rule = both (rule x) (each xs rule)

-- the same, where a rule sees the place too, counted from a number on
abbrev pub each_from : {A E : Type 0} → ℕ → List A → (ℕ → A → Option E → Type 0) → Option E → Type 0
each_from n [] rule = nothing
each_from n (x ∷ xs) rule = both (rule n x) (each_from (n + 1) xs rule)
