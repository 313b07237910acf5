-- A text is cut at one place.
use Rattle.std.proofs.Common.{◌≡◌, ◌∙◌, ℕ, ◌<◌, Bool, true, false, ◌||◌, List, [], ◌∷◌, ◌++◌, length, get_or, refl, sym, ap, subst, arith, append-nil, suc, take, drop, zero, ◌==◌}
use Rattle.std.specs.List.{list_any}
use Rattle.std.proofs.lemmas.Bool.Decides.{nat_tests}
use Rattle.std.proofs.lemmas.List.Folds.{list_any-append}
use Rattle.std.proofs.lemmas.List.{append_cancel_right}
use Rattle.dep_atom.specs.Cuts.{is_either, Lacks, Starts, end_text}
use Rattle.std.proofs.lemmas.Bool.{both_ways, or_from, or_parts}

head_lacks : (x y b : ℕ) (bytes : List ℕ) → Lacks x y (b ∷ bytes) → is_either x y b ≡ false
head_lacks x y b bytes h = (or_parts (is_either x y b) (list_any (is_either x y) bytes) h).0

tail_lacks : (x y b : ℕ) (bytes : List ℕ) → Lacks x y (b ∷ bytes) → Lacks x y bytes
tail_lacks x y b bytes h = (or_parts (is_either x y b) (list_any (is_either x y) bytes) h).1

meets : (x y b : ℕ) (bytes rest more : List ℕ) → Lacks x y (b ∷ bytes) → Starts x y rest → rest ≡ (b ∷ bytes) ++ more → ⊥
meets x y b bytes [] more h k e = absurd (omega (arith, ap length e))
meets x y b bytes (r ∷ rest) more h k e = both_ways (is_either x y b) (head_lacks x y b bytes h) (subst (λ c. is_either x y c ≡ true) (ap (λ l. get_or l 0 0) e) k)

pub cut_once : (x y : ℕ) (a b c d : List ℕ) → Lacks x y a → Lacks x y c → Starts x y b → Starts x y d → a ++ b ≡ c ++ d → (a ≡ c) × (b ≡ d)
cut_once x y [] b [] d h k s t e = (refl, e)
cut_once x y [] b (c ∷ cs) d h k s t e = absurd (meets x y c cs b d k s e)
cut_once x y (a ∷ as') b [] d h k s t e = absurd (meets x y a as' d b h t (sym e))
cut_once x y (a ∷ as') b (c ∷ cs) d h k s t e =
    let heads : a ≡ c = ap (λ l. get_or l 0 0) e in
    let tails : as' ++ b ≡ cs ++ d = ap (λ l. drop 1 l) e in
    let rest : (as' ≡ cs) × (b ≡ d) = cut_once x y as' b cs d (tail_lacks x y a as' h) (tail_lacks x y c cs k) s t tails in
    (ap (λ l. a ∷ l) rest.0 ∙ ap (λ i. i ∷ cs) heads, rest.1)

pub lacks_before : (x y : ℕ) (text : List ℕ) (at : ℕ) → ((k : ℕ) → k < at → is_either x y (get_or text k 0) ≡ false) → Lacks x y (take at text)
lacks_before x y [] zero h = refl
lacks_before x y [] (suc at) h = refl
lacks_before x y (b ∷ text) zero h = refl
lacks_before x y (b ∷ text) (suc at) h = or_from (is_either x y b) (list_any (is_either x y) (take at text)) (h 0 (omega arith)) (lacks_before x y text at (λ k within. h (suc k) (omega (arith, within))))

pub lacks_whole : (x y : ℕ) (text : List ℕ) → ((k : ℕ) → k < length text → is_either x y (get_or text k 0) ≡ false) → Lacks x y (take (length text) text)
lacks_whole x y text h = lacks_before x y text (length text) h

-- a text that ends with the byte lacks it not
ends_with : (end : ℕ) (front c : List ℕ) → Lacks end end c → c ≡ front ++ (end ∷ []) → ⊥
ends_with end front c h e = absurd (differ (end == end) (list_any (is_either end end) front) (same end) (sym (list_any-append (is_either end end) front (end ∷ [])) ∙ ap (list_any (is_either end end)) (sym e) ∙ h))
  where
    same : (b : ℕ) → (b == b) ≡ true
    same b = grind (arith, nat_tests)

    differ : (t p : Bool) → t ≡ true → (p || ((t || t) || false)) ≡ false → ⊥
    differ true false r e = cc
    differ true true r e = cc
    differ false p r e = cc

-- the byte at the end of a text, which what stands before it lacks
pub ends_once : (end : ℕ) (text front c : List ℕ) (p q : Bool) → text ≡ front ++ end_text end p → (p ≡ false → (f : List ℕ) → text ≡ f ++ (end ∷ []) → ⊥) → Lacks end end c → text ≡ c ++ end_text end q → (front ≡ c) × (p ≡ q)
ends_once end text front c true true e none h k = (append_cancel_right front c (end ∷ []) (sym e ∙ k), refl)
ends_once end text front c true false e none h k = absurd (ends_with end front c h (sym (append-nil c) ∙ sym k ∙ e))
ends_once end text front c false true e none h k = absurd (none refl c k)
ends_once end text front c false false e none h k = (sym (append-nil front) ∙ sym e ∙ k ∙ append-nil c, refl)
