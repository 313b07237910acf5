-- In a pool whose ids are distinct, no lent builder has the id of one at rest.
use Rattle.std.proofs.Common.{◌≡◌, ◌<◌, ◌≤◌, ◌∷◌, [], ◌++◌, ℕ, List, length, get_or, ap, arith, cond, refl}
use Rattle.std.proofs.lemmas.List.Sums.{get_or-le-sum_by, sum_by-append}
use Rattle.std.proofs.lemmas.Bool.{eq-eqb}
use Rattle.build_pool.specs.Pool.{id_times, is_number}
use Rattle.build_pool.specs.declared.pools.Away.{Away}

pub is_number-same : (n m : ℕ) → m ≡ n → is_number n m ≡ 1
is_number-same n m e = ap (λ t. cond t 1 0) (eq-eqb m n e)

pub no_other : {B : Type 0} (number : B → ℕ) (rest : List B) (b : B) (lent : List Away) (k : ℕ) (d : Away)
    → id_times number (number b) (record { resting = rest ++ b ∷ []; lent = lent }) ≤ 1 → k < length lent → (get_or lent k d).number ≡ number b → ⊥
no_other {B} number rest b lent k d once lt e =
    let f : B → ℕ = λ x. is_number (number b) (number x) in
    let h : Away → ℕ = λ a. is_number (number b) a.number in
    let split = sum_by-append f rest (b ∷ []) in
    let mine = is_number-same (number b) (number b) refl in
    let its = is_number-same (number b) (get_or lent k d).number e in
    let within = get_or-le-sum_by h lent k d lt in
    absurd (omega (arith, split, mine, its, within, once))
