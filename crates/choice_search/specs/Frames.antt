-- What is still to come of a walk, by the choices above the one where it is, the nearest first.
use Rattle.std.specs.Prelude.{◌≡◌, ℕ, Bool, true, false, List, [], ◌∷◌, Option, None, Some, map, reverse}
use Rattle.std.specs.List.{flat_map}
use Rattle.basics.specs.Members.{Has}
use Rattle.choice_search.specs.Path.{Path}
use Rattle.choice_search.specs.Shape.{Shape}
use Rattle.choice_search.specs.Visit.{Visit, after, barren, over, seen_as, visit}
use Rattle.choice_search.specs.declared.frame.Frame.{Frame}

-- a choice above the one where a walk is: what rests on it that the options which were tried are
-- barren, and the options that are still to be tried, in their order
pub record Level (C : Type 0) : Type 0 where
  pub choice : C
  pub cause : List ℕ
  pub rest : List C

-- what is kept of a choice, as steps from there
abbrev pub level : {C S : Type 0} → (C → S → C) → C → Frame S → Level C
level by c f =
    record { choice = c; cause = f.cause.items; rest = map (by c) (reverse f.rest.items) }

-- the same of choices side by side, the nearest first
abbrev pub levels : {C S : Type 0} → (C → S → C) → List C → List (Frame S) → List (Level C)
levels by [] fs = []
levels by (c ∷ cs) [] = []
levels by (c ∷ cs) (f ∷ fs) = level by c f ∷ levels by cs fs

-- .. of those on the way to where one is, of which the nearest is kept last
abbrev pub levels_at : {C S : Type 0} → (C → S → C) → Path C → List (Frame S) → List (Level C)
levels_at by p fs = levels by p.above (reverse fs)

-- the whole visit, where the choice below these ends so
abbrev pub resumed : {C : Type 0} → Shape C → List (Level C) → Visit C → Visit C
resumed shape [] v = v
resumed shape (l ∷ ls) v =
    resumed shape ls (after shape l.choice l.cause
    (λ (w : List ℕ). over shape l.choice w (map (visit shape) l.rest)) v.met v.end)

-- this is seen from here on, where this choice is the next one; where none is, no leaf is good
abbrev pub IsAhead : {C : Type 0} → Shape C → List (Level C) → Visit C → Option C → Type 0
IsAhead shape ls v None = (why : List ℕ) × (v ≡ seen_as [] (barren why))
IsAhead shape ls v (Some c) = v ≡ resumed shape ls (visit shape c)

-- the choice where one is, if that is to be visited next
abbrev pub next_if : {C : Type 0} → Bool → Path C → Option C
next_if true p = Some p.here
next_if false p = None

-- the options that are still to be tried
abbrev pub left_over : {C : Type 0} → List (Level C) → List C
left_over ls = flat_map (λ l. l.rest) ls

abbrev pub to_try : {C : Type 0} → List (Level C) → Option C → List C
to_try ls None = left_over ls
to_try ls (Some c) = c ∷ left_over ls

-- the choices in the first list are in the second one
abbrev pub AreAmong : {C : Type 0} → List C → List C → Type 0
AreAmong {C} cs ds = (c : C) → Has cs c → Has ds c
