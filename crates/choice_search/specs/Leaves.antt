-- The leaves of a tree of choices, in the order in which a walk through it comes by them.
use Rattle.std.specs.Prelude.{ℕ, zero, suc, List, [], ◌∷◌, Option, None, Some}
use Rattle.std.specs.List.{flat_map}

-- of a good leaf nothing is open; a dead one has no option for what is open
pub data Leaf (C : Type 0) : Type 0 where
  good : C → Leaf C
  dead : C → Leaf C

-- the leaves of a choice with these options, where `below` tells the leaves of each option
abbrev pub leaves_by : {C : Type 0} → (C → List (Leaf C)) → C → Option (List C) → List (Leaf C)
leaves_by below c None = good c ∷ []
leaves_by below c (Some []) = dead c ∷ []
leaves_by below c (Some (d ∷ ds)) = flat_map below (d ∷ ds)

-- the leaves that are less than so many steps below the choice
abbrev pub leaves_within : {C : Type 0} → (C → Option (List C)) → ℕ → C → List (Leaf C)
leaves_within options zero c = []
leaves_within options (suc n) c = leaves_by (leaves_within options n) c (options c)

-- all leaves of a choice, where `room` says how deep the tree below it is at most
abbrev pub leaves : {C : Type 0} → (C → Option (List C)) → (C → ℕ) → C → List (Leaf C)
leaves options room c = leaves_within options (suc (room c)) c

abbrev pub first_good : {C : Type 0} → List (Leaf C) → Option C
first_good [] = None
first_good (good c ∷ ls) = Some c
first_good (dead c ∷ ls) = first_good ls

-- the dead leaves before the first good one; all of them, if there is none
abbrev pub dead_before : {C : Type 0} → List (Leaf C) → List C
dead_before [] = []
dead_before (good c ∷ ls) = []
dead_before (dead c ∷ ls) = c ∷ dead_before ls
