-- A number is what its bytes read as, and bytes are those of the number that they read as.
use Rattle.std.proofs.Common.{◌≡◌, ℕ, zero, suc, ◌+◌, ◌*◌, ◌/◌, ◌^◌, ◌<◌, ◌≤◌, false, ltb, List, [], ◌∷◌, ◌++◌, length, take, drop, Ok, refl, sym, ap, subst, ◌∙◌, arith, inl, inr}
use Rattle.std.proofs.Math.Nat.{mul-le-mul_right, add-mul, mod-lt}
use Rattle.std.proofs.lemmas.Bool.{cases_lt, ltb-false, le-ltb}
use Rattle.std.proofs.lemmas.List.{append-nil, drop_at, take-append-drop, length-append, length-take}
use Rattle.std.specs.Int.{byte_at}
use Rattle.byteorder.specs.Endian.{big_from, big_number, big_bytes}
use Rattle.byteorder.specs.Numbers.{big_from-cons, big_from-lt, big_from-take, big_number-reads_back, length-bytes_high_first}
use Rattle.merge_record.specs.declared.fault.DecodeFault.TheVariants as faults
use Rattle.merge_record.specs.Reading.{number_at}
use Rattle.merge_record.specs.Spelling.{number_text}
use Rattle.merge_record.proofs.Steps.{IsBytes, IsBytes-drop, IsBytes-take, IsBytes-rest, guard_ok, Takes}

pub length-number_text : (k n : ℕ) → length (number_text k n) ≡ k
unfolding number_text
length-number_text k n = length-bytes_high_first k n

-- two numbers to the base w are equal only if their digits are
top_same : (a b p q w : ℕ) → p < w → q < w → a * w + p ≡ b * w + q → a ≡ b
top_same a b p q w lp lq e =
    elim (cases_lt a b) [
      | inl lt ↦ (let h : (a + 1) * w ≤ b * w = mul-le-mul_right w (omega arith) in let d = add-mul a 1 w in absurd (omega arith))
      | inr le ↦ elim (cases_lt b a) [
        | inl lt ↦ (let h : (b + 1) * w ≤ a * w = mul-le-mul_right w (omega arith) in let d = add-mul b 1 w in absurd (omega arith))
        | inr ge ↦ omega arith
      ]
    ]

-- bytes of one count that read as one number are the same bytes
same_bytes : (k : ℕ) (xs ys : List ℕ) → length xs ≡ k → length ys ≡ k → IsBytes xs → IsBytes ys → big_number k xs ≡ big_number k ys → xs ≡ ys
same_bytes zero [] [] lx ly fx fy e = refl
same_bytes zero [] (y ∷ ys) lx ly fx fy e = absurd (omega arith)
same_bytes zero (x ∷ xs) ys lx ly fx fy e = absurd (omega arith)
same_bytes (suc k) [] ys lx ly fx fy e = absurd (omega arith)
same_bytes (suc k) (x ∷ xs) [] lx ly fx fy e = absurd (omega arith)
same_bytes (suc k) (x ∷ xs) (y ∷ ys) lx ly fx fy e =
    let mx : big_from 1 k (x ∷ xs) ≡ big_number k xs = big_from-cons 0 k x xs in
    let my : big_from 1 k (y ∷ ys) ≡ big_number k ys = big_from-cons 0 k y ys in
    let bx = big_from-lt 0 k xs (IsBytes-rest x xs fx) in
    let by_y = big_from-lt 0 k ys (IsBytes-rest y ys fy) in
    let eq : x * 256 ^ k + big_number k xs ≡ y * 256 ^ k + big_number k ys = ap (λ (r : ℕ). x * 256 ^ k + r) (sym mx) ∙ e ∙ ap (λ (r : ℕ). y * 256 ^ k + r) my in
    let top = top_same x y (big_number k xs) (big_number k ys) (256 ^ k) bx by_y eq in
    let low : big_number k xs ≡ big_number k ys = omega (arith, ap (λ (t : ℕ). t * 256 ^ k) top) in
    let rest = same_bytes k xs ys (omega arith) (omega arith) (IsBytes-rest x xs fx) (IsBytes-rest y ys fy) low in
    cc

byte_at-lt : (k n : ℕ) → byte_at k n < 256
byte_at-lt zero n = mod-lt n (omega arith)
byte_at-lt (suc k) n = mod-lt (n / 256 ^ suc k) (omega arith)

IsBytes-big_bytes : (k n : ℕ) → IsBytes (big_bytes k n)
IsBytes-big_bytes zero n i = omega arith
IsBytes-big_bytes (suc k) n zero = byte_at-lt k n
IsBytes-big_bytes (suc k) n (suc i) = IsBytes-big_bytes k n i

-- bytes are those of the number that they read as
number_text-big_number : (k : ℕ) (xs : List ℕ) → length xs ≡ k → IsBytes xs → number_text k (big_number k xs) ≡ xs
unfolding number_text
number_text-big_number k xs len fits =
    let text = big_bytes k (big_number k xs) in
    let below = big_from-lt 0 k xs fits in
    let back = big_number-reads_back k (big_number k xs) [] below in
    let reads : big_number k text ≡ big_number k xs = ap (big_number k) (sym (append-nil text)) ∙ back in
    same_bytes k text xs (length-bytes_high_first k (big_number k xs)) len (IsBytes-big_bytes k (big_number k xs)) fits reads

pub number_takes : (k : ℕ) (bytes : List ℕ) (x : ℕ × List ℕ) → IsBytes bytes → number_at k bytes ≡ Ok x → Takes bytes (number_text k x.0) x.1 × (x.0 < 256 ^ k)
unfolding number_at
number_takes k bytes x fits e =
    let g = guard_ok (ltb (length bytes) k) (big_number k bytes, drop k bytes) x faults.Short e in
    let long : k ≤ length bytes = ltb-false _ _ g.0 in
    let front_fits = IsBytes-take k bytes fits in
    let same : big_number k (take k bytes) ≡ big_number k bytes = big_from-take 0 k k bytes (omega arith) in
    let front : number_text k (big_number k bytes) ≡ take k bytes = ap (number_text k) (sym same) ∙ number_text-big_number k (take k bytes) (omega (arith, length-take k bytes)) front_fits in
    let made : ℕ × List ℕ = (big_number k bytes, drop k bytes) in
    let parts : bytes ≡ number_text k (big_number k bytes) ++ drop k bytes = sym (take-append-drop k bytes) ∙ ap (λ (t : List ℕ). t ++ drop k bytes) (sym front) in
    subst (λ (y : ℕ × List ℕ). Takes bytes (number_text k y.0) y.1 × (y.0 < 256 ^ k)) g.1 (record { parts = parts; rest_fits = IsBytes-drop k bytes fits }, big_from-lt 0 k bytes fits)

pub number_again : (k n : ℕ) (rest : List ℕ) → n < 256 ^ k → number_at k (number_text k n ++ rest) ≡ Ok (n, rest)
unfolding number_at number_text
number_again k n rest lt =
    let len = length-bytes_high_first k n in
    let long : ltb (length (big_bytes k n ++ rest)) k ≡ false = le-ltb _ _ (omega (arith, length-append (big_bytes k n) rest)) in
    rw (long, drop_at (big_bytes k n) rest k len, big_number-reads_back k n rest lt) refl

pub IsBytes-number_text : (k n : ℕ) → IsBytes (number_text k n)
unfolding number_text
IsBytes-number_text k n = IsBytes-big_bytes k n
