-- Entries of equal parts are one.
use Rattle.std.proofs.Common.{◌≡◌, ◌∙◌, ℕ, List, [], ap}
use Rattle.build_pool.specs.declared.orders.Order.{Order}
use Rattle.dep_atom.specs.declared.package.PackageId.{PackageId}

-- an addition of these parts, without binds
abbrev pub made : PackageId → List ℕ → List ℕ → List (List ℕ) → Order
made id slot subslot enabled = record { id = id; slot = slot; subslot = subslot; enabled = enabled; binds = [] }

pub same_made : (i j : PackageId) (s t u v : List ℕ) (f g : List (List ℕ)) → i ≡ j → s ≡ t → u ≡ v → f ≡ g → made i s u f ≡ made j t v g
same_made i j s t u v f g ids slots subslots flags =
    ap (λ (x : PackageId). made x s u f) ids
    ∙ (ap (λ (x : List ℕ). made j x u f) slots
    ∙ (ap (λ (x : List ℕ). made j t x f) subslots ∙ ap (λ (x : List (List ℕ)). made j t v x) flags))
