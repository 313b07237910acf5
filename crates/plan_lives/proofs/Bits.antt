-- Setting and joining the bits of a row of words.
use Rattle.std.proofs.Common.{◌≡◌, ◌≢◌, ◌<◌, ◌≤◌, ◌*◌, ◌/◌, ◌%◌, ◌^◌, ◌∙◌, ◌||◌, ℕ, zero, suc, max, Bool, true, false, List, length, get_or, nat_eq, refl, ap, sym, inl, inr, arith, eq-eqb}
use Rattle.std.proofs.Common.{set, w64}
use Rattle.std.specs.Prelude.{bit_or}
use Rattle.std.specs.Int.{bit_at}
use Rattle.std.proofs.Math.Nat.{mod-lt}
use Rattle.std.proofs.lemmas.List.{get_or-set_other, get_or_past}
use Rattle.std.proofs.lemmas.Grind.{get_or-set_at}
use Rattle.std.proofs.lemmas.Bool.{cases_lt}
use Rattle.std.proofs.lemmas.Bool.Decides.{nat_tests}
use Rattle.std.proofs.lemmas.Nat.Bits.{bit_at_or, bit_at_set_same, bit_at_set_other, bit_at-zero, bit_at-lt}
use Rattle.basics.proofs.Tests.{or-false}
use Rattle.plan_lives.specs.Reaching.{has_bit}

pub eq_true : (a b : ℕ) → nat_eq a b ≡ true → a ≡ b
eq_true a b h = grind (arith, nat_tests)

pub not_key : (a k : ℕ) → nat_eq a k ≡ false → a ≡ k → ⊥
not_key a k e is = let t = eq-eqb a k is in cc

one_of : (x y : ℕ) → x < 2 → y < 2 → nat_eq (max x y) 1 ≡ (nat_eq x 1 || nat_eq y 1)
one_of zero zero h k = refl
one_of zero (suc zero) h k = refl
one_of zero (suc (suc y)) h k = absurd (omega (arith, k))
one_of (suc zero) zero h k = refl
one_of (suc zero) (suc zero) h k = refl
one_of (suc zero) (suc (suc y)) h k = absurd (omega (arith, k))
one_of (suc (suc x)) y h k = absurd (omega (arith, h))

pub or_bit : (a b i : ℕ) → nat_eq (bit_at (bit_or a b) i) 1 ≡ (nat_eq (bit_at a i) 1 || nat_eq (bit_at b i) 1)
or_bit a b i = ap (λ x. nat_eq x 1) (bit_at_or a b i) ∙ one_of (bit_at a i) (bit_at b i) (bit_at-lt a i) (bit_at-lt b i)

pub past_bit : (words : List ℕ) (k : ℕ) → length words ≤ k / 64 → has_bit words k ≡ false
past_bit words k h = ap (λ w. nat_eq (bit_at w (k % 64)) 1) (get_or_past words (k / 64) 0 h) ∙ ap (λ x. nat_eq x 1) (bit_at-zero (k % 64))

-- a row that was joined with another
pub joined_bits : (old other new : List ℕ) → ((j : ℕ) → j < length other → get_or new j 0 ≡ bit_or (get_or old j 0) (get_or other j 0)) → ((j : ℕ) → length other ≤ j → get_or new j 0 ≡ get_or old j 0) → (k : ℕ) → has_bit new k ≡ (has_bit old k || has_bit other k)
joined_bits old other new below past k = elim (cases_lt (k / 64) (length other)) [
  | inl h ↦ ap (λ w. nat_eq (bit_at w (k % 64)) 1) (below (k / 64) h) ∙ or_bit (get_or old (k / 64) 0) (get_or other (k / 64) 0) (k % 64)
  | inr h ↦ ap (λ w. nat_eq (bit_at w (k % 64)) 1) (past (k / 64) h) ∙ (sym (or-false (has_bit old k)) ∙ ap (λ b. has_bit old k || b) (sym (past_bit other k h)))
]

not_eq : (a b : ℕ) → (a ≡ b → ⊥) → (c : Bool) → nat_eq a b ≡ c → nat_eq a b ≡ false
not_eq a b ne true e = absurd (ne (eq_true a b e))
not_eq a b ne false e = e

set_step : (words : List ℕ) (bit k : ℕ) (a b : Bool) → nat_eq (k / 64) (bit / 64) ≡ a → nat_eq (k % 64) (bit % 64) ≡ b → bit < 64 * length words → has_bit (set words (bit / 64) (bit_or (get_or words (bit / 64) 0) (1 * 2 ^ (bit % 64) % 18446744073709551616))) k ≡ (nat_eq k bit || has_bit words k)
set_step words bit k true true e f h =
    let u = eq_true (k / 64) (bit / 64) e in
    let v = eq_true (k % 64) (bit % 64) f in
    let same : k ≡ bit = omega arith in
    let within : bit / 64 < length words = omega arith in
    let small : bit % 64 < 64 = mod-lt bit (omega arith) in
    let word = bit_or (get_or words (bit / 64) 0) (1 * 2 ^ (bit % 64) % 18446744073709551616) in
    ap (λ w. nat_eq (bit_at w (k % 64)) 1) (get_or-set_at words (bit / 64) (k / 64) word 0 u within)
    ∙ (ap (λ i. nat_eq (bit_at word i) 1) v ∙ (ap (λ x. nat_eq x 1) (bit_at_set_same w64 (get_or words (bit / 64) 0) (bit % 64) small)
    ∙ ap (λ b. b || has_bit words k) (sym (eq-eqb k bit same))))
set_step words bit k true false e f h =
    let u = eq_true (k / 64) (bit / 64) e in
    let ne : k % 64 ≢ bit % 64 = not_key (k % 64) (bit % 64) f in
    let within : bit / 64 < length words = omega arith in
    let small : bit % 64 < 64 = mod-lt bit (omega arith) in
    let word = bit_or (get_or words (bit / 64) 0) (1 * 2 ^ (bit % 64) % 18446744073709551616) in
    ap (λ w. nat_eq (bit_at w (k % 64)) 1) (get_or-set_at words (bit / 64) (k / 64) word 0 u within)
    ∙ (ap (λ x. nat_eq x 1) (bit_at_set_other w64 (get_or words (bit / 64) 0) (bit % 64) small (k % 64) ne)
    ∙ (ap (λ j. nat_eq (bit_at (get_or words j 0) (k % 64)) 1) (sym u)
    ∙ ap (λ b. b || has_bit words k) (sym (not_eq k bit (λ same. ne (ap (λ n. n % 64) same)) (nat_eq k bit) refl))))
set_step words bit k false b e f h =
    let ne : k / 64 ≢ bit / 64 = not_key (k / 64) (bit / 64) e in
    ap (λ w. nat_eq (bit_at w (k % 64)) 1) (get_or-set_other words (bit / 64) (k / 64) _ 0 ne)
    ∙ ap (λ b. b || has_bit words k) (sym (not_eq k bit (λ same. ne (ap (λ n. n / 64) same)) (nat_eq k bit) refl))

pub set_bits : (words : List ℕ) (bit k old : ℕ) → bit < 64 * length words → old ≡ get_or words (bit / 64) 0 → has_bit (set words (bit / 64) (bit_or old (1 * 2 ^ (bit % 64) % 18446744073709551616))) k ≡ (nat_eq k bit || has_bit words k)
set_bits words bit k old h is = rw is (set_step words bit k (nat_eq (k / 64) (bit / 64)) (nat_eq (k % 64) (bit % 64)) refl refl h)
