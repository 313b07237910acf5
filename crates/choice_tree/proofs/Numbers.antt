-- Numbers in a row, and lists that are told by their places.
use Rattle.std.proofs.Common.{◌≡◌, ◌⊎◌, ◌<◌, ◌≤◌, ◌+◌, ◌-◌, ◌++◌, ℕ, zero, suc, List, [], ◌∷◌, add-one, get_or, length, map, refl, sym, ap, arith, ◌∙◌, inl, inr}
use Rattle.basics.specs.Members.{Has}
use Rattle.choice_tree.specs.Places.{numbers}

pub numbers_next : (n l : ℕ) → l < n → numbers (n - l) l ≡ l ∷ numbers (n - (l + 1)) (l + 1)
numbers_next n l less =
    let one_more : n - l ≡ suc (n - (l + 1)) = omega (arith, less) in
    ap (λ (j : ℕ). numbers j l) one_more ∙ ap (λ (k : ℕ). l ∷ numbers (n - (l + 1)) k) (sym (add-one l))

pub numbers_done : (n l : ℕ) → n ≤ l → numbers (n - l) l ≡ []
numbers_done n l past = let none : n - l ≡ 0 = omega (arith, past) in ap (λ (j : ℕ). numbers j l) none

pub numbers_last : (n k : ℕ) → numbers (suc n) k ≡ numbers n k ++ (k + n) ∷ []
numbers_last zero k = let same : k ≡ k + 0 = omega arith in ap (λ (j : ℕ). j ∷ []) same
numbers_last (suc n) k =
    let same : suc k + n ≡ k + suc n = omega arith in
    ap (λ (xs : List ℕ). k ∷ xs) (numbers_last n (suc k)) ∙ ap (λ (j : ℕ). k ∷ (numbers n (suc k) ++ j ∷ [])) same

pub length_numbers : (n k : ℕ) → length (numbers n k) ≡ n
length_numbers zero k = refl
length_numbers (suc n) k = ap (λ (j : ℕ). suc j) (length_numbers n (suc k))

pub has_numbers : (n k l : ℕ) → k ≤ l → l < k + n → Has (numbers n k) l
has_numbers zero k l above below = absurd (omega (arith, above, below))
has_numbers (suc n) k l above below = elim (same_or_more k l above) [
  | inl same ↦ inl same
  | inr more ↦ inr (has_numbers n (suc k) l more (omega (arith, below)))
] where
  same_or_more : (k l : ℕ) → k ≤ l → (k ≡ l) ⊎ (suc k ≤ l)
  same_or_more zero zero above = inl refl
  same_or_more zero (suc l) above = inr (omega arith)
  same_or_more (suc k) zero above = absurd (omega (arith, above))
  same_or_more (suc k) (suc l) above = elim (same_or_more k l (omega (arith, above))) [
    | inl same ↦ inl (ap (λ (j : ℕ). suc j) same)
    | inr more ↦ inr (omega (arith, more))
  ]

pub numbers_have : (n k l : ℕ) → Has (numbers n k) l → (k ≤ l) × (l < k + n)
numbers_have zero k l h = absurd h
numbers_have (suc n) k l (inl same) = (omega (arith, same), omega (arith, same))
numbers_have (suc n) k l (inr h) = let r = numbers_have n (suc k) l h in (omega (arith, r.0), omega (arith, r.1))

module _ {A : Type 0} (f : ℕ → A) (d : A) where
  pub get_numbered : (n k l : ℕ) → l < n → get_or (map f (numbers n k)) l d ≡ f (k + l)
  get_numbered zero k l less = absurd (omega (arith, less))
  get_numbered (suc n) k zero less = let same : k ≡ k + 0 = omega arith in ap f same
  get_numbered (suc n) k (suc l) less =
      let same : suc k + l ≡ k + suc l = omega arith in get_numbered n (suc k) l (omega (arith, less)) ∙ ap f same

pub get_mapped : {A B : Type 0} (g : B → A) (xs : List B) (l : ℕ) (d : B) (e : A) → l < length xs → get_or (map g xs) l e ≡ g (get_or xs l d)
get_mapped g [] l d e less = absurd (omega (arith, less))
get_mapped g (x ∷ xs) zero d e less = refl
get_mapped g (x ∷ xs) (suc l) d e less = get_mapped g xs l d e (omega (arith, less))
