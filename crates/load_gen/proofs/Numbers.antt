-- What is made of one number more.
use Rattle.std.proofs.Common.{◌≡◌, ◌∙◌, ◌+◌, ℕ, suc, List, [], ◌∷◌, ◌++◌, ap, arith, map, sym}
use Rattle.std.specs.List.{flat_map}
use Rattle.std.proofs.lemmas.List.{flat_map_more, map-append}
use Rattle.load_gen.specs.Loads.{numbers_below}

numbers_more : (n : ℕ) → numbers_below (n + 1) ≡ numbers_below n ++ n ∷ []
numbers_more n = let next : n + 1 ≡ suc n = omega arith in ap numbers_below next

pub map_more : {A B : Type 0} (f : A → B) (g : ℕ → B) (xs : List A) (x : A) (n : ℕ) → map f xs ≡ map g (numbers_below n) → f x ≡ g n → map f (xs ++ x ∷ []) ≡ map g (numbers_below (n + 1))
map_more f g xs x n so_far here =
    map-append f xs (x ∷ [])
    ∙ (ap (λ l. l ++ f x ∷ []) so_far
    ∙ (ap (λ y. map g (numbers_below n) ++ y ∷ []) here
    ∙ (sym (map-append g (numbers_below n) (n ∷ [])) ∙ sym (ap (map g) (numbers_more n)))))

pub flat_more : {A : Type 0} (first : A) (f : ℕ → List A) (xs : List A) (n : ℕ) → xs ≡ first ∷ flat_map f (numbers_below n) → xs ++ f n ≡ first ∷ flat_map f (numbers_below (n + 1))
flat_more first f xs n so_far =
    ap (λ l. l ++ f n) so_far
    ∙ (flat_map_more f (first ∷ []) (numbers_below n) n
    ∙ sym (ap (λ ns. first ∷ flat_map f ns) (numbers_more n)))
