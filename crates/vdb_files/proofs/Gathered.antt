-- What is gathered from the first items of a list.
use Rattle.std.proofs.Common.{◌≡◌, ◌∙◌, ◌++◌, ◌+◌, ◌<◌, ℕ, zero, suc, arith, List, [], ◌∷◌, ap, append-nil, append_assoc, get_or, length, map, sym, take}
use Rattle.std.specs.List.{flat_map}

gathered_next : {A B C : Type 0} (f : B → List C) (g : A → B) (xs : List A) (k : ℕ) (d : A) → k < length xs → flat_map f (map g (take (k + 1) xs)) ≡ flat_map f (map g (take k xs)) ++ f (g (get_or xs k d))
gathered_next f g [] k d lt = absurd (omega (arith, lt))
gathered_next f g (x ∷ xs) zero d lt = append-nil (f (g x))
gathered_next f g (x ∷ xs) (suc k) d lt =
    let e : suc k + 1 ≡ suc (k + 1) = omega arith in
    ap (λ (n : ℕ). flat_map f (map g (take n (x ∷ xs)))) e
    ∙ ap (λ (l : List _). f (g x) ++ l) (gathered_next f g xs k d (omega (arith, lt)))
    ∙ sym (append_assoc (f (g x)) (flat_map f (map g (take k xs))) (f (g (get_or xs k d))))

-- one item more
pub gathered_more : {A B C : Type 0} (f : B → List C) (g : A → B) (xs : List A) (k : ℕ) (d : A) (was new : List C) → k < length xs → was ≡ flat_map f (map g (take k xs)) → new ≡ was ++ f (g (get_or xs k d))
    → new ≡ flat_map f (map g (take (k + 1) xs))
gathered_more f g xs k d was new lt before more =
    more ∙ ap (λ (l : List _). l ++ f (g (get_or xs k d))) before ∙ sym (gathered_next f g xs k d lt)
