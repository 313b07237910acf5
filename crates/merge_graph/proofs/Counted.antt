-- How many of a list pass a test.
use Rattle.std.proofs.Common.{◌≡◌, ◌<◌, ◌≤◌, ◌+◌, ℕ, zero, suc, Bool, true, false, cond, List, [], ◌∷◌, arith, get_or, length, refl}

abbrev one : Bool → ℕ
one b = cond b 1 0

abbrev pub passing : {A : Type 0} → (A → Bool) → List A → ℕ
passing p [] = 0
passing p (x ∷ xs) = one (p x) + passing p xs

one_le : (a b : Bool) → (a ≡ true → b ≡ true) → one a ≤ one b
one_le true true h = omega arith
one_le true false h = absurd (let bad : false ≡ true = h refl in cc bad)
one_le false b h = omega arith

one_lt : (a b : Bool) → a ≡ false → b ≡ true → one a < one b
one_lt true b off on = absurd (cc off)
one_lt false true off on = omega arith
one_lt false false off on = absurd (cc on)

-- where all that pass of the one list pass of the other, they are no more
pub passing_le : {A : Type 0} (p : A → Bool) (d : A) (xs ys : List A) → length xs ≡ length ys → ((k : ℕ) → k < length xs → p (get_or xs k d) ≡ true → p (get_or ys k d) ≡ true) → passing p xs ≤ passing p ys
passing_le p d [] ys long each = omega arith
passing_le p d (x ∷ xs) [] long each = absurd (omega (arith, long))
passing_le p d (x ∷ xs) (y ∷ ys) long each =
    let head = one_le (p x) (p y) (each 0 (omega arith)) in
    let tail = passing_le p d xs ys (omega (arith, long)) (λ k less. each (suc k) (omega (arith, less))) in
    omega (arith, head, tail)

-- .. and fewer where one passes there and not here
pub passing_lt : {A : Type 0} (p : A → Bool) (d : A) (xs ys : List A) → length xs ≡ length ys → ((k : ℕ) → k < length xs → p (get_or xs k d) ≡ true → p (get_or ys k d) ≡ true)
    → (i : ℕ) → i < length xs → p (get_or xs i d) ≡ false → p (get_or ys i d) ≡ true → passing p xs < passing p ys
passing_lt p d [] ys long each i within off on = absurd (omega (arith, within))
passing_lt p d (x ∷ xs) [] long each i within off on = absurd (omega (arith, long))
passing_lt p d (x ∷ xs) (y ∷ ys) long each zero within off on =
    let head = one_lt (p x) (p y) off on in
    let tail = passing_le p d xs ys (omega (arith, long)) (λ k less. each (suc k) (omega (arith, less))) in
    omega (arith, head, tail)
passing_lt p d (x ∷ xs) (y ∷ ys) long each (suc i) within off on =
    let head = one_le (p x) (p y) (each 0 (omega arith)) in
    let tail = passing_lt p d xs ys (omega (arith, long)) (λ k less. each (suc k) (omega (arith, less))) i (omega (arith, within)) off on in
    omega (arith, head, tail)
