-- What stands before a slash of a path is a path.
use Rattle.std.proofs.Common.{◌≡◌, ◌==◌, ◌<◌, ◌≤◌, ◌-◌, ◌&&◌, ◌||◌, ℕ, zero, suc, Bool, true, false, cond, not, List, [], ◌∷◌, ◌++◌, length, get_or, take, drop, refl, sym, ap, ◌∙◌, arith}
use Rattle.std.specs.Prelude.{bytes_eq}
use Rattle.std.proofs.lemmas.Bool.{or_parts, true≢false}
use Rattle.std.proofs.lemmas.List.{drop-append-le, get_or_append_left, length-append, length-take, length-take-le, take-append-le}
use Rattle.std.proofs.lemmas.List.Sums.{take_while-cons}
use Rattle.std.proofs.Math.Seq.{split_at}
use Rattle.std.proofs.lemmas.Slice.Eq.{bytes_eq-Decides}
use Rattle.basics.proofs.Texts.{bytes_eq-apart}
use Rattle.file_tree.specs.Paths.{bad_at, bad_part_at, begins_badly, first_part, is_bad_part, is_path, part_begins}
use Rattle.file_tree.proofs.Grammar.{HasForm, form_of_path, is_path_if_good}

-- the first part of a text is that of what stands before a slash
front_part : (d r : List ℕ) → first_part (d ++ 47 ∷ r) ≡ first_part d
front_part [] r = take_while-cons (λ b. not (b == 47)) 47 r
front_part (x ∷ d) r =
    take_while-cons (λ b. not (b == 47)) x (d ++ 47 ∷ r)
    ∙ ap (λ (l : List ℕ). cond (not (x == 47)) (x ∷ l) []) (front_part d r)
    ∙ sym (take_while-cons (λ b. not (b == 47)) x d)

-- what a text doesn't begin with, no front of it does
not_begun : (n d rest : List ℕ) → bytes_eq n (take (length n) (d ++ rest)) ≡ false → bytes_eq n (take (length n) d) ≡ false
not_begun n d rest h = bytes_eq-apart n (take (length n) d) (λ e. begun e)
  where
    begun : n ≡ take (length n) d → ⊥
    begun e =
        let size : length n ≡ length (take (length n) d) = ap length e in
        let within : length n ≤ length d = omega (arith, size, length-take (length n) d) in
        let same : n ≡ take (length n) (d ++ rest) = e ∙ sym (take-append-le (length n) d rest within) in
        true≢false (sym ((bytes_eq-Decides n (take (length n) (d ++ rest))).1 same) ∙ h)

either : (a b : Bool) → a ≡ false → b ≡ false → (a || b) ≡ false
either a b p q = rw (p, q) refl

good_front : (d rest : List ℕ) → begins_badly (d ++ rest) ≡ false → begins_badly d ≡ false
good_front d rest h =
    let x = d ++ rest in
    let one = or_parts (bytes_eq (10 ∷ []) (take 1 x)) (bytes_eq (0 ∷ []) (take 1 x) || bytes_eq (32 ∷ 45 ∷ 62 ∷ []) (take 3 x)) h in
    let two = or_parts (bytes_eq (0 ∷ []) (take 1 x)) (bytes_eq (32 ∷ 45 ∷ 62 ∷ []) (take 3 x)) one.1 in
    either _ _ (not_begun (10 ∷ []) d rest one.0) (either _ _ (not_begun (0 ∷ []) d rest two.0) (not_begun (32 ∷ 45 ∷ 62 ∷ []) d rest two.1))

begins_same : (a rest : List ℕ) (k : ℕ) → k ≤ length a → part_begins (a ++ rest) k ≡ part_begins a k
begins_same a rest zero le = refl
begins_same a rest (suc k) le = ap (λ (b : ℕ). (suc k == 0) || (b == 47)) (get_or_append_left a rest 0 (suc k - 1) (omega (arith, le)))

good_before : (a r : List ℕ) (k : ℕ) → k ≤ length a → bad_at (a ++ 47 ∷ r) k ≡ false → bad_at a k ≡ false
good_before a r k le h =
    let whole = a ++ 47 ∷ r in
    let dropped : drop k whole ≡ drop k a ++ 47 ∷ r = drop-append-le k a (47 ∷ r) le in
    let parts = or_parts (bad_part_at whole k) (begins_badly (drop k whole)) h in
    let same : first_part (drop k whole) ≡ first_part (drop k a) = ap first_part dropped ∙ front_part (drop k a) r in
    let moved : bad_part_at whole k ≡ bad_part_at a k =
    ap (λ (b : Bool). b && is_bad_part (first_part (drop k whole))) (begins_same a (47 ∷ r) k le)
    ∙ ap (λ (l : List ℕ). part_begins a k && is_bad_part l) same in
    either _ _ (sym moved ∙ parts.0) (good_front (drop k a) (47 ∷ r) (sym (ap begins_badly dropped) ∙ parts.1))

pub front_is_path : (a r : List ℕ) → 0 < length a → is_path (a ++ 47 ∷ r) ≡ true → is_path a ≡ true
front_is_path a r some path =
    let form : HasForm (a ++ 47 ∷ r) = form_of_path (a ++ 47 ∷ r) path in
    let short : length (a ++ 47 ∷ r) ≤ 4095 = form.short in
    let size = length-append a (47 ∷ r) in
    is_path_if_good a some (omega (arith, short, size)) (λ k lt. good_before a r k (omega (arith, lt)) (form.good k (omega (arith, lt, size))))

-- a text whose place holds a slash, in parts
parted : (path : List ℕ) (at : ℕ) → at < length path → get_or path at 0 ≡ 47 → path ≡ take at path ++ 47 ∷ drop (suc at) path
parted path at lt slash = split_at path at 0 lt ∙ ap (λ (b : ℕ). take at path ++ b ∷ drop (suc at) path) slash

empty_part : (rest : List ℕ) → bad_at (47 ∷ rest) 0 ≡ true
empty_part rest = ap (λ (l : List ℕ). is_bad_part l || begins_badly (47 ∷ rest)) (take_while-cons (λ b. not (b == 47)) 47 rest)

-- no path begins with a slash
slash_inside : (path : List ℕ) (at : ℕ) → path ≡ take at path ++ 47 ∷ drop (suc at) path → is_path path ≡ true → 0 < at
slash_inside path zero parts form =
    let good : bad_at path 0 ≡ false = (form_of_path path form).good 0 (omega arith) in
    absurd (true≢false (sym (empty_part (drop 1 path)) ∙ ap (λ (l : List ℕ). bad_at l 0) (sym parts) ∙ good))
slash_inside path (suc at) parts form = omega arith

-- so is what stands before a place that holds one
pub above_is_path : (path : List ℕ) (at : ℕ) → at < length path → get_or path at 0 ≡ 47 → is_path path ≡ true → is_path (take at path) ≡ true
above_is_path path at lt slash form =
    let parts = parted path at lt slash in
    let some = slash_inside path at parts form in
    front_is_path (take at path) (drop (suc at) path) (omega (arith, some, length-take-le at path (omega (arith, lt)))) (ap is_path (sym parts) ∙ form)
