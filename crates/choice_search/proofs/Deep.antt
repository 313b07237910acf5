-- Whoever looks deep enough below a choice sees all of its leaves.
use Rattle.std.proofs.Common.{◌≡◌, ◌<◌, ◌++◌, ℕ, zero, suc, List, [], ◌∷◌, Option, None, Some, refl, ap, arith, ◌∙◌, inl, inr}
use Rattle.std.specs.List.{flat_map}
use Rattle.basics.specs.Members.{Has}
use Rattle.choice_search.specs.Leaves.{Leaf, leaves_by, leaves_within}
use Rattle.choice_search.specs.Laws.{DepthIsOfNoAccount, IsDeep}

pub same_flat : {A B : Type 0} (f h : A → List B) (xs : List A) → ((x : A) → Has xs x → f x ≡ h x) → flat_map f xs ≡ flat_map h xs
same_flat f h [] same = refl
same_flat f h (x ∷ xs) same =
    ap (λ l. l ++ flat_map f xs) (same x (inl refl)) ∙ ap (λ l. h x ++ l) (same_flat f h xs (λ y at_y. same y (inr at_y)))

module _ {C : Type 0} (options : C → Option (List C)) (room : C → ℕ) (deep : IsDeep options room) where
  same_by : (f h : C → List (Leaf C)) (c : C) (found : Option (List C)) → ((ds : List C) → found ≡ Some ds → (d : C) → Has ds d → f d ≡ h d) → leaves_by f c found ≡ leaves_by h c found
  same_by f h c None same = refl
  same_by f h c (Some []) same = refl
  same_by f h c (Some (d ∷ ds)) same = same_flat f h (d ∷ ds) (same (d ∷ ds) refl)

  -- both look deep enough
  pub same_leaves : (n m : ℕ) (c : C) → room c < n → room c < m → leaves_within options n c ≡ leaves_within options m c
  same_leaves zero m c below_n below_m = absurd (omega (arith, below_n))
  same_leaves (suc n) zero c below_n below_m = absurd (omega (arith, below_m))
  same_leaves (suc n) (suc m) c below_n below_m =
      same_by (leaves_within options n) (leaves_within options m) c (options c) (λ ds is d at_d.
      let less = deep c d ds is at_d in
      same_leaves n m d (omega (arith, less, below_n)) (omega (arith, less, below_m)))

pub no_account : {C : Type 0} → DepthIsOfNoAccount C
no_account options room deep c n below = same_leaves options room deep n (suc (room c)) c below (omega arith)
