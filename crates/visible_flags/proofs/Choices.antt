-- The settings of lists of flags, one flag after another.
use Rattle.std.proofs.Common.{◌≡◌, ◌≢◌, ◌∙◌, ◌-◌, ℕ, zero, suc, List, [], ◌∷◌, ◌++◌, append_assoc, filter, fold, map, ap, arith, refl, sym}
use Rattle.std.proofs.lemmas.List.{map-append}
use Rattle.std.proofs.lemmas.List.Elements.{filter-append}
use Rattle.required_use.specs.Texts.{Expressions}
use Rattle.visible_flags.specs.Variants.{Setting, fits, flipped, lists_of, settings}

pub settings-append : (r : Expressions) (is : Setting) (a b : List (List (List ℕ))) → settings r is (a ++ b) ≡ settings r is a ++ settings r is b
settings-append r is a b =
    ap (filter (fits r)) (map-append (fold flipped is) a b) ∙ filter-append (fits r) (map (fold flipped is) a) (map (fold flipped is) b)

with_first : (is : Setting) (flag : List ℕ) (lists : List (List (List ℕ))) → map (fold flipped is) (map (λ l. flag ∷ l) lists) ≡ map (fold flipped (flipped is flag)) lists
with_first is flag [] = refl
with_first is flag (l ∷ lists) = ap (λ (ls : List Setting). fold flipped (flipped is flag) l ∷ ls) (with_first is flag lists)

-- the lists that begin with the first flag, and then those without it
apart : (r : Expressions) (is : Setting) (flag : List ℕ) (later : List (List ℕ)) (n : ℕ) → settings r is (lists_of (suc n) (flag ∷ later)) ≡ settings r (flipped is flag) (lists_of n later) ++ settings r is (lists_of (suc n) later)
apart r is flag later n =
    settings-append r is (map (λ l. flag ∷ l) (lists_of n later)) (lists_of (suc n) later)
    ∙ ap (λ (ls : List Setting). filter (fits r) ls ++ settings r is (lists_of (suc n) later)) (with_first is flag (lists_of n later))

one_less : (n : ℕ) → suc n - 1 ≡ n
one_less n = omega arith

pub next : (r : Expressions) (is other : Setting) (flag : List ℕ) (rest later : List (List ℕ)) (n : ℕ) (found more all : List Setting) → (n ≢ 0) → rest ≡ flag ∷ later → other ≡ flipped is flag
    → more ≡ found ++ settings r other (lists_of (n - 1) later) → found ++ settings r is (lists_of n rest) ≡ all → more ++ settings r is (lists_of n later) ≡ all
next r is other flag rest later zero found more all some split turned added before = absurd (some refl)
next r is other flag rest later (suc n) found more all some split turned added before =
    ap (λ (m : List Setting). m ++ settings r is (lists_of (suc n) later)) (added ∙ (ap (λ m. found ++ settings r other (lists_of m later)) (one_less n) ∙ ap (λ (s : Setting). found ++ settings r s (lists_of n later)) turned))
    ∙ (append_assoc found (settings r (flipped is flag) (lists_of n later)) (settings r is (lists_of (suc n) later))
    ∙ (ap (λ (ls : List Setting). found ++ ls) (sym (apart r is flag later n) ∙ ap (λ (fs : List (List ℕ)). settings r is (lists_of (suc n) fs)) (sym split))
    ∙ before))
