-- Zeros at the end of digits.
use Rattle.std.specs.Prelude.{false, ◌==◌}
use Rattle.std.proofs.Common.{◌≡◌, ◌∙◌, ℕ, ◌+◌, ◌-◌, ◌<◌, ◌≤◌, List, [], ◌∷◌, ◌++◌, length, take, get_or, refl, sym, ap, arith}
use Rattle.std.proofs.Math.Bool.{and-false}
use Rattle.std.proofs.lemmas.Bool.{ne_eqb}
use Rattle.std.proofs.lemmas.List.{take_more}
use Rattle.pms_version.specs.Order.{is_empty, trim_zeros}

-- a zero at the end is dropped
trim_zeros-zero : (xs : List ℕ) → trim_zeros (xs ++ 48 ∷ []) ≡ trim_zeros xs
trim_zeros-zero [] = refl
trim_zeros-zero (x ∷ xs) = rw (trim_zeros-zero xs)

is_empty-snoc : (xs : List ℕ) (x : ℕ) → is_empty (xs ++ x ∷ []) ≡ false
is_empty-snoc [] x = refl
is_empty-snoc (y ∷ ys) x = refl

-- another digit at the end keeps all
trim_zeros-other : (xs : List ℕ) (x : ℕ) → (x == 48) ≡ false → trim_zeros (xs ++ x ∷ []) ≡ xs ++ x ∷ []
trim_zeros-other [] x h = rw h
trim_zeros-other (y ∷ ys) x h = rw (trim_zeros-other ys x h, is_empty-snoc ys x, and-false)

pub trim_zeros-more_zero : (xs : List ℕ) (i : ℕ) → i < length xs → get_or xs i 0 ≡ 48 → trim_zeros (take (i + 1) xs) ≡ trim_zeros (take i xs)
trim_zeros-more_zero xs i h e = ap trim_zeros (take_more xs i 0 h ∙ ap (λ x. take i xs ++ x ∷ []) e) ∙ trim_zeros-zero (take i xs)

pub trim_zeros-more_other : (xs : List ℕ) (i : ℕ) → i < length xs → (get_or xs i 0 == 48) ≡ false → trim_zeros (take (i + 1) xs) ≡ take (i + 1) xs
trim_zeros-more_other xs i h e = ap trim_zeros (take_more xs i 0 h) ∙ (trim_zeros-other (take i xs) (get_or xs i 0) e ∙ sym (take_more xs i 0 h))

pub trim_step : (xs : List ℕ) (e : ℕ) → 0 < e → e ≤ length xs → get_or xs (e - 1) 0 ≡ 48 → trim_zeros (take e xs) ≡ trim_zeros xs → trim_zeros (take (e - 1) xs) ≡ trim_zeros xs
trim_step xs e h l z same =
    let back : e - 1 + 1 ≡ e = omega arith in
    sym (trim_zeros-more_zero xs (e - 1) (omega arith) z) ∙ (ap (λ n. trim_zeros (take n xs)) back ∙ same)

pub trim_done : (xs : List ℕ) (e : ℕ) → 0 < e → e ≤ length xs → (get_or xs (e - 1) 0 ≡ 48 → ⊥) → trim_zeros (take e xs) ≡ trim_zeros xs → take e xs ≡ trim_zeros xs
trim_done xs e h l z same =
    let back : e - 1 + 1 ≡ e = omega arith in
    ap (λ n. take n xs) (sym back) ∙ (sym (trim_zeros-more_other xs (e - 1) (omega arith) (ne_eqb (get_or xs (e - 1) 0) 48 z)) ∙ (ap (λ n. trim_zeros (take n xs)) back ∙ same))

pub trim_all : (xs : List ℕ) (e : ℕ) → e ≤ 0 → trim_zeros (take e xs) ≡ trim_zeros xs → take e xs ≡ trim_zeros xs
trim_all xs e h same =
    let none : e ≡ 0 = omega arith in
    ap (λ n. take n xs) none ∙ (ap (λ n. trim_zeros (take n xs)) (sym none) ∙ same)
