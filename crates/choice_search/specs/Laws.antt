-- How deep one looks is of no account, once it is deep enough.
use Rattle.std.specs.Prelude.{◌≡◌, ◌<◌, ℕ, List, Option, Some}
use Rattle.basics.specs.Members.{Has}
use Rattle.choice_search.specs.Leaves.{leaves, leaves_within}

-- the tree below an option is less deep than that below its choice
abbrev pub IsDeep : {C : Type 0} → (C → Option (List C)) → (C → ℕ) → Type 0
IsDeep {C} options room =
    (c d : C) (ds : List C) → options c ≡ Some ds → Has ds d → room d < room c

-- whoever looks deep enough sees all leaves
abbrev pub DepthIsOfNoAccount : Type 0 → Type 0
DepthIsOfNoAccount C =
    (options : C → Option (List C)) (room : C → ℕ) → IsDeep options room →
    (c : C) (n : ℕ) → room c < n → leaves_within options n c ≡ leaves options room c
