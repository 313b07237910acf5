-- The number that digits write, digit by digit.
use Rattle.std.specs.Prelude.{true}
use Rattle.std.proofs.Common.{◌≡◌, ◌∙◌, ℕ, zero, suc, ◌+◌, ◌-◌, ◌*◌, ◌^◌, ◌<◌, ◌≤◌, List, [], ◌∷◌, length, take, get_or, ap, subst, arith, add-one, add-zero, add-suc, lit<}
use Rattle.std.proofs.Math.Nat.{pow-succ'}
use Rattle.std.proofs.lemmas.List.{take_more}
use Rattle.std.proofs.lemmas.List.Sums.{fold-append}
use Rattle.pms_grammar.proofs.Bytes.{digit_range}
use Rattle.basics.specs.Bytes.{is_digit}
use Rattle.pms_grammar.specs.Grammar.{AreDigits}
use Rattle.pms_version.specs.Order.{decimal}

pub is_digit-at : (ds : List ℕ) (i : ℕ) → AreDigits ds → i < length ds → is_digit (get_or ds i 0) ≡ true
is_digit-at [] i h l = absurd (omega arith)
is_digit-at (d ∷ ds) zero h l = h.0
is_digit-at (d ∷ ds) (suc i) h l = is_digit-at ds i h.1 (omega arith)

pub digit_at_range : (ds : List ℕ) (i : ℕ) → AreDigits ds → i < length ds → (48 ≤ get_or ds i 0) × (get_or ds i 0 ≤ 57)
digit_at_range ds i h l = digit_range (get_or ds i 0) (is_digit-at ds i h l)

pub decimal_more : (ds : List ℕ) (i : ℕ) → i < length ds → decimal (take (i + 1) ds) ≡ 10 * decimal (take i ds) + (get_or ds i 0 - 48)
decimal_more ds i l = ap decimal (take_more ds i 0 l) ∙ fold-append (λ n d. 10 * n + (d - 48)) 0 (take i ds) (get_or ds i 0 ∷ [])

pub tens_rise : (i v d : ℕ) → v < 10 ^ i → d ≤ 9 → 10 * v + d < 10 ^ (i + 1)
tens_rise i v d h l = let e : 10 ^ (i + 1) ≡ 10 * 10 ^ i = rw add-one (pow-succ' 10 i) in omega arith

pub tens_grow : (i k : ℕ) → 10 ^ i ≤ 10 ^ (i + k)
tens_grow i zero = rw add-zero (omega arith)
tens_grow i (suc k) =
    let e : 10 ^ (i + suc k) ≡ 10 * 10 ^ (i + k) = rw add-suc (pow-succ' 10 (i + k)) in
    let h : 10 ^ i ≤ 10 ^ (i + k) = tens_grow i k in
    omega arith

pub below_most : (i v : ℕ) → i ≤ 38 → v < 10 ^ i → v < 2 ^ 128
below_most i v h l =
    let e : i + (38 - i) ≡ 38 = omega arith in
    let grown : 10 ^ i ≤ 10 ^ 38 = subst (λ n. 10 ^ i ≤ 10 ^ n) e (tens_grow i (38 - i)) in
    let most : 10 ^ 38 < 2 ^ 128 = lit< tt in
    omega arith

pub tens_fit : (i v d : ℕ) → i < 38 → v < 10 ^ i → d ≤ 9 → 10 * v + d < 2 ^ 128
tens_fit i v d h l k = below_most (i + 1) (10 * v + d) (omega arith) (tens_rise i v d l k)
