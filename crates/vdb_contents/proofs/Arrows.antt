-- What stands before the first arrow of a text; no path has one.
use Rattle.std.proofs.Common.{◌≡◌, ◌∙◌, ◌&&◌, ◌||◌, ◌<◌, ◌≤◌, ◌+◌, ℕ, Bool, true, false, MatchBool, MatchOption, Option, Some, None, List, [], ◌∷◌, ◌++◌, length, drop, get_or, refl, ap, sym, arith, append_assoc, subst, inl, inr}
use Rattle.std.proofs.lemmas.Bool.{cases_lt}
use Rattle.std.proofs.lemmas.List.{append_cancel_left, append_cancel_right, drop_at, length-append}
use Rattle.std.specs.Option.{is_some}
use Rattle.std.specs.Str.{is_utf8}
use Rattle.std.proofs.lemmas.Bool.{and_parts}
use Rattle.file_tree.specs.Paths.{bad_char_at, bad_part_at, begins_badly, is_path}
use Rattle.file_tree.proofs.Grammar.{form_of_path}
use Rattle.file_link.specs.Targets.{is_target}
use Rattle.file_tree.specs.Paths.{IsPathText}
use Rattle.vdb_contents.specs.Cuts.{LacksArrow}

lacks_tail : (x : ℕ) (p : List ℕ) → LacksArrow (x ∷ p) → LacksArrow p
lacks_tail x p none a r e = none (x ∷ a) r (ap (λ (l : List ℕ). x ∷ l) e)

-- no arrow begins in a text and ends with another one's first bytes
none_across : (x : ℕ) (q t u : List ℕ) → LacksArrow (x ∷ q) → 32 ∷ 45 ∷ 62 ∷ t ≡ x ∷ (q ++ 32 ∷ 45 ∷ 62 ∷ u) → ⊥
none_across x [] t u none e = let f : 45 ≡ 32 = ap (λ (l : List ℕ). get_or l 1 0) e in absurd (omega (arith, f))
none_across x (y ∷ []) t u none e = let f : 62 ≡ 32 = ap (λ (l : List ℕ). get_or l 2 0) e in absurd (omega (arith, f))
none_across x (y ∷ z ∷ q) t u none e =
    let a : 32 ≡ x = ap (λ (l : List ℕ). get_or l 0 0) e in
    let b : 45 ≡ y = ap (λ (l : List ℕ). get_or l 1 0) e in
    let c : 62 ≡ z = ap (λ (l : List ℕ). get_or l 2 0) e in
    none [] q (ap (λ (n : ℕ). n ∷ y ∷ z ∷ q) (sym a) ∙ (ap (λ (n : ℕ). 32 ∷ n ∷ z ∷ q) (sym b) ∙ ap (λ (n : ℕ). 32 ∷ 45 ∷ n ∷ q) (sym c)))

-- what stands before the first arrow
pub cut_arrow : (p q t u : List ℕ) → LacksArrow p → LacksArrow q → p ++ 32 ∷ 45 ∷ 62 ∷ t ≡ q ++ 32 ∷ 45 ∷ 62 ∷ u → (p ≡ q) × (t ≡ u)
cut_arrow [] [] t u h k e = (refl, ap (drop 3) e)
cut_arrow [] (x ∷ q) t u h k e = absurd (none_across x q t u k e)
cut_arrow (x ∷ p) [] t u h k e = absurd (none_across x p u t h (sym e))
cut_arrow (x ∷ p) (y ∷ q) t u h k e =
    let rest = cut_arrow p q t u (lacks_tail x p h) (lacks_tail y q k) (ap (drop 1) e) in
    let first : x ≡ y = ap (λ (l : List ℕ). get_or l 0 0) e in
    (ap (λ (z : ℕ). z ∷ p) first ∙ ap (λ (l : List ℕ). y ∷ l) rest.0, rest.1)

or_parts : (a b : Bool) → (a || b) ≡ false → (a ≡ false) × (b ≡ false)
or_parts true b h = absurd (cc h)
or_parts false b h = (refl, h)

-- at no place of a path stand bytes that none has
pub none_bad : (p : List ℕ) → IsPathText p → (k : ℕ) → k < length p → begins_badly (drop k p) ≡ false
none_bad p is k lt =
    let form = form_of_path p (and_parts (is_utf8 p) (is_path p) is).1 in
    (or_parts (bad_part_at p k) (bad_char_at p k) (form.good k (omega (arith, lt)))).1

pub path_lacks_arrow : (p : List ℕ) → IsPathText p → LacksArrow p
path_lacks_arrow p is a r e =
    let long : length a < length p = omega (arith, ap length e, length-append a (32 ∷ 45 ∷ 62 ∷ r)) in
    let none : begins_badly (drop (length a) p) ≡ false = none_bad p is (length a) long in
    let there : drop (length a) p ≡ 32 ∷ 45 ∷ 62 ∷ r = ap (drop (length a)) e ∙ drop_at a (32 ∷ 45 ∷ 62 ∷ r) (length a) refl in
    let bad : begins_badly (32 ∷ 45 ∷ 62 ∷ r) ≡ true = refl in
    cc (ap begins_badly there, bad, none)

-- what stands between the beginning and the end of a line
-- no arrow begins before a place
abbrev pub NoneBefore : List ℕ → ℕ → Type 0
NoneBefore text at = (a r : List ℕ) → length a < at → text ≡ a ++ 32 ∷ 45 ∷ 62 ∷ r → ⊥
