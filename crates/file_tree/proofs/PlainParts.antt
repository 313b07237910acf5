-- Texts of plain parts are paths.
use Rattle.std.proofs.Common.{◌≡◌, ◌==◌, ◌<◌, ◌≤◌, ◌-◌, ◌&&◌, ◌||◌, ℕ, zero, suc, Bool, true, false, not, eqb, ltb, List, [], ◌∷◌, length, drop, get_or, refl, sym, ap, ◌∙◌, arith, take, lit≤}
use Rattle.std.specs.Prelude.{bytes_eq}
use Rattle.std.proofs.Math.Seq.{drop-cons}
use Rattle.std.proofs.lemmas.Bool.{and_parts, eqb-false, ltb-true, ne_eqb, or_parts}
use Rattle.std.proofs.lemmas.List.Sums.{take_while-cons}
use Rattle.file_tree.specs.Paths.{bad_at, bad_char_at, begins_badly, first_part, is_bad_part, is_path, part_begins}
use Rattle.file_tree.specs.declared.limits.TheConstants.{MOST_PATH_BYTES}
use Rattle.file_tree.proofs.Grammar.{is_path_if_good}
use Rattle.basics.proofs.Texts.{bytes_eq-apart}

-- bytes above the space, and no part that is empty or begins with a full stop; `fresh` where a part begins
abbrev pub has_plain_parts : Bool → List ℕ → Bool
has_plain_parts fresh [] = not fresh
has_plain_parts fresh (b ∷ bs) = ltb 32 b && (not (fresh && (eqb b 46 || eqb b 47)) && has_plain_parts (eqb b 47) bs)

record Bytes (fresh : Bool) (b : ℕ) (bs : List ℕ) : Type 0 where
  high : 32 < b
  dot : fresh ≡ true → ¬ (b ≡ 46)
  part : fresh ≡ true → eqb b 47 ≡ false
  rest : has_plain_parts (eqb b 47) bs ≡ true

not_and : (a b : Bool) → not (a && b) ≡ true → a ≡ true → b ≡ false
not_and true true h e = absurd cc
not_and true false h e = refl
not_and false b h e = absurd cc

bytes_of : (fresh : Bool) (b : ℕ) (bs : List ℕ) → has_plain_parts fresh (b ∷ bs) ≡ true → Bytes fresh b bs
bytes_of fresh b bs h =
    let a = and_parts (ltb 32 b) (not (fresh && (eqb b 46 || eqb b 47)) && has_plain_parts (eqb b 47) bs) h in
    let d = and_parts (not (fresh && (eqb b 46 || eqb b 47))) (has_plain_parts (eqb b 47) bs) a.1 in
    let neither_is = not_and fresh (eqb b 46 || eqb b 47) d.0 in
    record { high = ltb-true 32 b a.0; dot = λ f. eqb-false b 46 (or_parts _ _ (neither_is f)).0; part = λ f. (or_parts (eqb b 46) (eqb b 47) (neither_is f)).1; rest = d.1 }

-- lists whose first bytes differ
heads_apart : (xs ys : List ℕ) → ¬ (get_or xs 0 0 ≡ get_or ys 0 0) → bytes_eq xs ys ≡ false
heads_apart xs ys differ = bytes_eq-apart xs ys (λ e. differ (ap (λ (t : List ℕ). get_or t 0 0) e))

neither : (a b d : Bool) → a ≡ false → b ≡ false → d ≡ false → (a || (b || d)) ≡ false
neither a b d p q r = rw (p, q, r) refl

plain_char : (fresh : Bool) (bs : List ℕ) → has_plain_parts fresh bs ≡ true → begins_badly bs ≡ false
plain_char fresh [] h = refl
plain_char fresh (b ∷ bs) h =
    let high : 32 < b = (bytes_of fresh b bs h).high in
    neither _ _ _ (heads_apart (10 ∷ []) (take 1 (b ∷ bs)) (λ e. below 10 e (lit≤ tt))) (heads_apart (0 ∷ []) (take 1 (b ∷ bs)) (λ e. below 0 e (lit≤ tt))) (heads_apart (32 ∷ 45 ∷ 62 ∷ []) (take 3 (b ∷ bs)) (λ e. below 32 e (lit≤ tt)))
  where
    below : (k : ℕ) → k ≡ b → k ≤ 32 → ⊥
    below k e le = let high : 32 < b = (bytes_of fresh b bs h).high in omega arith

first_part-cons : (b : ℕ) (bs : List ℕ) → eqb b 47 ≡ false → first_part (b ∷ bs) ≡ b ∷ first_part bs
first_part-cons b bs h = take_while-cons (λ x. not (x == 47)) b bs ∙ rw h refl

plain_part : (bs : List ℕ) → has_plain_parts true bs ≡ true → is_bad_part (first_part bs) ≡ false
plain_part [] h = absurd cc
plain_part (b ∷ bs) h =
    let g = bytes_of true b bs h in
    let high : 32 < b = g.high in
    let t = b ∷ first_part bs in
    ap is_bad_part (first_part-cons b bs (g.part refl))
    ∙ neither _ _ _ (heads_apart t [] (λ e. some e)) (heads_apart t (46 ∷ []) (g.dot refl)) (heads_apart t (46 ∷ 46 ∷ []) (g.dot refl))
  where
    some : b ≡ 0 → ⊥
    some e = let high : 32 < b = (bytes_of true b bs h).high in omega arith

plain_bad : (bytes rest : List ℕ) (at : ℕ) → drop at bytes ≡ rest → has_plain_parts (part_begins bytes at) rest ≡ true → bad_at bytes at ≡ false
plain_bad bytes rest at here h = go (part_begins bytes at) refl
  where
    char : bad_char_at bytes at ≡ false
    char = ap begins_badly here ∙ plain_char (part_begins bytes at) rest h

    go : (fresh : Bool) → part_begins bytes at ≡ fresh → bad_at bytes at ≡ false
    go true e =
        let part : is_bad_part (first_part (drop at bytes)) ≡ false = ap (λ (x : List ℕ). is_bad_part (first_part x)) here ∙ plain_part rest (ap (λ (b : Bool). has_plain_parts b rest) (sym e) ∙ h) in
        rw (e, part, char) refl
    go false e = rw (e, char) refl

plain_at : (bytes : List ℕ) → has_plain_parts true bytes ≡ true → (k : ℕ) → k ≤ length bytes → has_plain_parts (part_begins bytes k) (drop k bytes) ≡ true
plain_at bytes h zero le = h
plain_at bytes h (suc k) le =
    let before = plain_at bytes h k (omega arith) in
    let here : drop k bytes ≡ get_or bytes k 0 ∷ drop (suc k) bytes = drop-cons bytes k 0 (omega arith) in
    let g = bytes_of (part_begins bytes k) (get_or bytes k 0) (drop (suc k) bytes) (ap (has_plain_parts (part_begins bytes k)) (sym here) ∙ before) in
    let begins : part_begins bytes (suc k) ≡ eqb (get_or bytes k 0) 47 = rw (sub_one k, ne_eqb (suc k) 0 (λ e. omega arith)) refl in
    ap (λ (b : Bool). has_plain_parts b (drop (suc k) bytes)) begins ∙ g.rest
  where
    sub_one : (n : ℕ) → suc n - 1 ≡ n
    sub_one n = omega arith

pub plain_parts_path : (bytes : List ℕ) → has_plain_parts true bytes ≡ true → 0 < length bytes → length bytes ≤ MOST_PATH_BYTES → is_path bytes ≡ true
plain_parts_path bytes h some short =
    is_path_if_good bytes some short (λ k lt. plain_bad bytes (drop k bytes) k refl (plain_at bytes h k (omega arith)))
