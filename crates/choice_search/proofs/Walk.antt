-- Walks that look deep enough see the same.
use Rattle.std.proofs.Common.{◌≡◌, ◌<◌, ◌∙◌, ℕ, zero, suc, List, [], ◌∷◌, Option, None, Some, map, refl, ap, arith, inl, inr}
use Rattle.basics.specs.Members.{Has}
use Rattle.choice_search.specs.Laws.{IsDeep}
use Rattle.choice_search.specs.Shape.{Shape}
use Rattle.choice_search.specs.Visit.{Visit, over, visit, visit_by, visit_within}

same_map : {A B : Type 0} (f h : A → B) (xs : List A) → ((x : A) → Has xs x → f x ≡ h x) → map f xs ≡ map h xs
same_map f h [] same = refl
same_map f h (x ∷ xs) same =
    ap (λ y. y ∷ map f xs) (same x (inl refl)) ∙ ap (λ ys. h x ∷ ys) (same_map f h xs (λ y at_y. same y (inr at_y)))

module _ {C : Type 0} (shape : Shape C) (deep : IsDeep shape.options shape.room) where
  same_by : (f h : C → Visit C) (c : C) (found : Option (List C)) → ((ds : List C) → found ≡ Some ds → (d : C) → Has ds d → f d ≡ h d) → visit_by shape f c found ≡ visit_by shape h c found
  same_by f h c None same = refl
  same_by f h c (Some []) same = refl
  same_by f h c (Some (d ∷ ds)) same = ap (over shape c []) (same_map f h (d ∷ ds) (same (d ∷ ds) refl))

  -- both look deep enough
  same_visits : (n m : ℕ) (c : C) → shape.room c < n → shape.room c < m → visit_within shape n c ≡ visit_within shape m c
  same_visits zero m c below_n below_m = absurd (omega (arith, below_n))
  same_visits (suc n) zero c below_n below_m = absurd (omega (arith, below_m))
  same_visits (suc n) (suc m) c below_n below_m =
      same_by (visit_within shape n) (visit_within shape m) c (shape.options c) (λ ds is d at_d.
      let less = deep c d ds is at_d in
      same_visits n m d (omega (arith, less, below_n)) (omega (arith, less, below_m)))

  -- a visit is one of the options
  pub unfolds : (c : C) → visit shape c ≡ visit_by shape (visit shape) c (shape.options c)
  unfolds c =
      same_by (visit_within shape (shape.room c)) (visit shape) c (shape.options c) (λ ds is d at_d.
      let less = deep c d ds is at_d in
      same_visits (shape.room c) (suc (shape.room d)) d less (omega arith))
