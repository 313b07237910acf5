-- A walk through a tree of choices that tries nothing again which had no part in a dead end.
use Rattle.std.specs.Prelude.{◌≡◌, ◌<◌, ◌≤◌, ◌++◌, ◌&&◌, ℕ, zero, suc, Bool, List, [], ◌∷◌, Option, None, Some, length, map, nat_eq, not, take, if◌then◌else◌}
use Rattle.std.specs.List.{list_all, list_any}
use Rattle.choice_search.specs.Shape.{Shape}
use Rattle.choice_search.specs.declared.outcome.Outcome.{Outcome}
use Rattle.choice_search.specs.declared.outcome.Outcome.TheVariants.{Found, Limit, NoneGood}

-- how a visit of a choice ends: at the first good leaf, or there is none, which rests on these lines
pub data End (C : Type 0) : Type 0 where
  reached : C → End C
  barren : List ℕ → End C

-- the dead leaves that are met below a choice, in their order, and the end
pub record Visit (C : Type 0) : Type 0 where
  pub met : List C
  pub end : End C

abbrev pub seen_as : {C : Type 0} → List C → End C → Visit C
seen_as met end = record { met = met; end = end }

-- what is seen where these dead leaves were met before
abbrev pub behind : {C : Type 0} → List C → Visit C → Visit C
behind met v = seen_as (met ++ v.met) v.end

-- the good leaf of an end
abbrev pub ending : {C : Type 0} → End C → Option C
ending (reached c) = Some c
ending (barren why) = None

-- a cause and one line more, if the choice knows that and it isn't there
abbrev pub with_line : (ℕ → Bool) → List ℕ → ℕ → List ℕ
with_line known cause l =
    if known l && not (list_any (λ k. nat_eq k l) cause) then cause ++ l ∷ [] else cause

-- a cause and what the choice knows of these lines, each once
abbrev pub joined : (ℕ → Bool) → List ℕ → List ℕ → List ℕ
joined known cause [] = cause
joined known cause (l ∷ ls) = joined known (with_line known cause l) ls

-- after the visit of an option: its good leaf; or the choice is barren at once, if it knows the
-- whole cause; or its other options, what it knows of that cause being part of its own
abbrev pub after :
    {C : Type 0} → Shape C → C → List ℕ → (List ℕ → Visit C) → List C → End C → Visit C
after shape c cause others met (reached d) = seen_as met (reached d)
after shape c cause others met (barren why) =
    if list_all (shape.knows c) why
    then seen_as met (barren why)
    else behind met (others (joined (shape.knows c) cause why))

-- of the visits of the options, one after the other; where none is left, it rests on the reason of
-- the choice, too
abbrev pub over : {C : Type 0} → Shape C → C → List ℕ → List (Visit C) → Visit C
over shape c cause [] = seen_as [] (barren (joined (shape.knows c) cause (shape.reason c)))
over shape c cause (v ∷ vs) = after shape c cause (λ (w : List ℕ). over shape c w vs) v.met v.end

-- of a choice with these options, where `below` visits each option
abbrev pub visit_by : {C : Type 0} → Shape C → (C → Visit C) → C → Option (List C) → Visit C
visit_by shape below c None = seen_as [] (reached c)
visit_by shape below c (Some []) = behind (c ∷ []) (over shape c [] [])
visit_by shape below c (Some (d ∷ ds)) = over shape c [] (map below (d ∷ ds))

abbrev pub visit_within : {C : Type 0} → Shape C → ℕ → C → Visit C
visit_within shape zero c = seen_as [] (barren [])
visit_within shape (suc n) c = visit_by shape (visit_within shape n) c (shape.options c)

abbrev pub visit : {C : Type 0} → Shape C → C → Visit C
visit shape c = visit_within shape (suc (shape.room c)) c

-- what a search ends with that makes this visit, where so many dead leaves are too many
abbrev pub IsOutcome : {C : Type 0} → Visit C → ℕ → Outcome C → Type 0
IsOutcome v limit (Found c) = (ending v.end ≡ Some c) × (length v.met < limit)
IsOutcome v limit (NoneGood met) =
    (ending v.end ≡ None) × (met.items ≡ v.met) × (length v.met < limit)
IsOutcome v limit (Limit refuted) =
    (refuted.items ≡ take limit v.met) × (limit ≤ length v.met)
