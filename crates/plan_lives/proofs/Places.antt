-- What stands at a place of a list, and behind it.
use Rattle.std.proofs.Common.{◌≡◌, ◌<◌, ◌∙◌, ℕ, suc, List, [], ◌∷◌, length, get_or, map, sym, ap, inl, inr, Vec, Global, arith}
use Rattle.std.proofs.lemmas.List.{get_or-map, get_or_default}
use Rattle.basics.specs.Members.{Has}
use Rattle.basics.proofs.Membership.{has-at}
use Rattle.plan_law.specs.Plans.{Group, group_at, no_group}

-- the list that a place of a list of lists has
pub row_at : (rows : List (Vec ℕ Global)) (i : ℕ) (d : Vec ℕ Global) (v : List ℕ) → i < length rows → d ≡ get_or rows i d → v ≡ d.items → get_or (map (λ v. v.items) rows) i [] ≡ v
row_at rows i d v within is value = get_or-map _ rows i d [] within ∙ ap (λ v. v.items) (sym is) ∙ sym value

-- a member has a place
pub has_place : (xs : List ℕ) (x : ℕ) → Has xs x → (i : ℕ) × (i < length xs) × (get_or xs i 0 ≡ x)
has_place [] x h = absurd h
has_place (y ∷ xs) x (inl e) = (0, omega arith, e)
has_place (y ∷ xs) x (inr h) = let r = has_place xs x h in (suc r.0, omega (arith, r.1), r.2)

pub place_has : (xs : List ℕ) (k : ℕ) → k < length xs → Has xs (get_or xs k 0)
place_has xs k h = has-at xs k (get_or xs k 0) h (get_or_default xs k 0 (get_or xs k 0) h)

-- the group that a place of a plan has
pub group_is : (plan : List Group) (g : ℕ) (v : Group) → g < length plan → v ≡ get_or plan g v → group_at plan g ≡ v
group_is plan g v within is = get_or_default plan g no_group v within ∙ sym is
