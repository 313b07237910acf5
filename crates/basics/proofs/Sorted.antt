-- Lists that ascend strictly.
use Rattle.std.specs.Cmp.{IsTotalOrder}
use Rattle.std.specs.List.Sorted.{IsStrictlySortedBy}
use Rattle.std.specs.Ordering.{on}
use Rattle.std.specs.declared.cmp.Ordering.{Ordering}
use Rattle.std.specs.declared.cmp.Ordering.TheVariants.{Less}
use Rattle.std.proofs.Common.{◌≡◌, ◌∙◌, List, [], ◌∷◌, map, ap, inl, inr, refl, sym}
use Rattle.basics.specs.Members.{Has}
use Rattle.basics.proofs.Each.{all-map_back, all_has}
use Rattle.basics.proofs.Orderings.{not_itself, one_way}

-- two such lists with the same members are one
pub same_sorted : {K : Type 0} {R : K → K → Ordering} → IsTotalOrder R → (xs ys : List K) → IsStrictlySortedBy R xs → IsStrictlySortedBy R ys → ((t : K) → Has xs t → Has ys t) → ((t : K) → Has ys t → Has xs t) → xs ≡ ys
unfolding IsStrictlySortedBy
same_sorted total [] [] a b h k = refl
same_sorted total [] (y ∷ ys) a b h k = absurd (k y (inl refl))
same_sorted total (x ∷ xs) [] a b h k = absurd (h x (inl refl))
same_sorted {K = K} {R = R} total (x ∷ xs) (y ∷ ys) a b h k =
    let above_x = λ (t : K) (has : Has xs t). all_has (λ (z : K). R x z ≡ Less) xs t a.0 has in
    let above_y = λ (t : K) (has : Has ys t). all_has (λ (z : K). R y z ≡ Less) ys t b.0 has in
    let first : x ≡ y = elim (h x (inl refl)) [
      | inl e ↦ sym e
      | inr in-ys ↦ elim (k y (inl refl)) [ inl e ↦ e | inr in-xs ↦ absurd (one_way total y x (above_y x in-ys) (above_x y in-xs)) ]
    ] in
    let rest = same_sorted total xs ys a.1 b.1
    (λ t has. elim (h t (inr has)) [ inr later ↦ later | inl e ↦ absurd (not_itself total x t (first ∙ e) (above_x t has)) ])
    (λ t has. elim (k t (inr has)) [ inr later ↦ later | inl e ↦ absurd (not_itself total y t (sym first ∙ e) (above_y t has)) ]) in
    ap (λ (z : K). z ∷ xs) first ∙ ap (λ (zs : List K). y ∷ zs) rest

-- what ascends by its keys ascends in the order by keys
pub sorted-by_keys : {A K : Type 0} (f : A → K) (R : K → K → Ordering) (xs : List A) → IsStrictlySortedBy R (map f xs) → IsStrictlySortedBy (on f R) xs
unfolding IsStrictlySortedBy
sorted-by_keys f R [] up = tt
sorted-by_keys {K = K} f R (x ∷ xs) up = (all-map_back (λ (k : K). R (f x) k ≡ Less) f xs up.0, sorted-by_keys f R xs up.1)
