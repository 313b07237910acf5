-- Where a text is cut: at the first newline, and at the last space.
use Rattle.std.proofs.Common.{◌≡◌, ◌∙◌, ◌<◌, ◌≤◌, ◌==◌, ◌-◌, ℕ, zero, suc, Bool, true, false, cond, List, [], ◌∷◌, ◌++◌, length, get_or, drop, take, refl, ap, sym, subst, arith}
use Rattle.std.specs.List.{list_any}
use Rattle.std.proofs.Math.Seq.{take-length}
use Rattle.std.proofs.lemmas.Bool.{eqb-true, false_from_ne_true, or_from, or_parts}
use Rattle.memchr.specs.Find.{NoneAfter, NoneBefore, Nowhere, Passes, is_byte}
use Rattle.vdb_contents.specs.Contents.{before_lines, lines}
use Rattle.vdb_contents.specs.Cuts.{HasNoSpace, IsFirstLine}
use Rattle.vdb_contents.proofs.Lines.{IsOneLine, lines_ended}

-- all but the first
whole_rest : (xs : List ℕ) → take (length xs - 1) (drop 1 xs) ≡ drop 1 xs
whole_rest [] = refl
whole_rest (x ∷ xs) =
    let less : length (x ∷ xs) - 1 ≡ length xs = omega arith in
    ap (λ (n : ℕ). take n xs) less ∙ take-length xs

-- a text around one of its bytes
pub cut_at : (b : ℕ) (text : List ℕ) (at : ℕ) → at < length text → (get_or text at 0 == b) ≡ true → text ≡ take at text ++ (b ∷ drop 1 (drop at text))
cut_at b [] at lt here = absurd (omega (arith, lt))
cut_at b (x ∷ text) zero lt here = ap (λ (n : ℕ). n ∷ text) (eqb-true x b here)
cut_at b (x ∷ text) (suc at) lt here = ap (λ (l : List ℕ). x ∷ l) (cut_at b text at (omega (arith, lt)) here)

solid : (b : ℕ) (text : List ℕ) → ((k : ℕ) → k < length text → (get_or text k 0 == b) ≡ false) → list_any (λ c. c == b) text ≡ false
solid b [] h = refl
solid b (x ∷ text) h = or_from (x == b) (list_any (λ c. c == b) text) (h 0 (omega arith)) (solid b text (λ k lt. h (suc k) (omega (arith, lt))))

solid_front : (b : ℕ) (text : List ℕ) (at : ℕ) → at ≤ length text → ((k : ℕ) → k < at → (get_or text k 0 == b) ≡ false) → list_any (λ c. c == b) (take at text) ≡ false
solid_front b text zero le h = refl
solid_front b [] (suc at) le h = refl
solid_front b (x ∷ text) (suc at) le h =
    or_from (x == b) (list_any (λ c. c == b) (take at text)) (h 0 (omega arith)) (solid_front b text at (omega (arith, le)) (λ k lt. h (suc k) (omega (arith, lt))))

solid_behind : (b : ℕ) (text : List ℕ) (at : ℕ) → ((k : ℕ) → at < k → k < length text → (get_or text k 0 == b) ≡ false) → list_any (λ c. c == b) (drop 1 (drop at text)) ≡ false
solid_behind b [] zero h = refl
solid_behind b [] (suc at) h = refl
solid_behind b (x ∷ text) zero h = solid b text (λ k lt. h (suc k) (omega arith) (omega (arith, lt)))
solid_behind b (x ∷ text) (suc at) h = solid_behind b text at (λ k gt lt. h (suc k) (omega (arith, gt)) (omega (arith, lt)))

shorter_behind : (text : List ℕ) (at : ℕ) → at < length text → length (drop 1 (drop at text)) < length text
shorter_behind [] at lt = absurd (omega (arith, lt))
shorter_behind (x ∷ text) zero lt = omega arith
shorter_behind (x ∷ text) (suc at) lt = let e = shorter_behind text at (omega (arith, lt)) in omega (arith, e)

pub no_space : (text : List ℕ) → Nowhere (Passes (is_byte 32) text) 0 (length text) → HasNoSpace text
no_space text none = solid 32 text (λ k lt. false_from_ne_true (get_or text k 0 == 32) (none k (omega arith) lt))

-- the last space cuts the text
pub last_space : (text front back : List ℕ) (at : ℕ) → front ≡ take at text → back ≡ drop at text
    → NoneAfter (Passes (is_byte 32) text) 0 (length text) at → Passes (is_byte 32) text at
    → HasNoSpace (take (length back - 1) (drop 1 back)) × (text ≡ front ++ (32 ∷ take (length back - 1) (drop 1 back)))
last_space text front back at f b after here =
    let rest : take (length back - 1) (drop 1 back) ≡ drop 1 (drop at text) = whole_rest back ∙ ap (drop 1) b in (
      subst HasNoSpace (sym rest) (solid_behind 32 text at (λ k gt lt. false_from_ne_true (get_or text k 0 == 32) (after.after k (omega (arith, gt)) lt))),
      cut_at 32 text at after.high here ∙ ap (λ (l : List ℕ). l ++ (32 ∷ drop 1 (drop at text))) (sym f) ∙ ap (λ (l : List ℕ). front ++ (32 ∷ l)) (sym rest),
    )

-- a newline ends the first line
pub ended_line : (text line back : List ℕ) (at : ℕ) → line ≡ take at text → back ≡ drop at text
    → NoneBefore (Passes (is_byte 10) text) 0 (length text) at → Passes (is_byte 10) text at
    → IsFirstLine text line (take (length back - 1) (drop 1 back))
ended_line text line back at l b before here =
    let rest : take (length back - 1) (drop 1 back) ≡ drop 1 (drop at text) = whole_rest back ∙ ap (drop 1) b in
    let one : IsOneLine (take at text) = solid_front 10 text at (omega (arith, before.high)) (λ k lt. false_from_ne_true (get_or text k 0 == 10) (before.before k (omega arith) lt)) in
    record {
      first = ap lines (cut_at 10 text at before.high here) ∙ lines_ended (take at text) (drop 1 (drop at text)) one
          ∙ ap (λ (x : List ℕ). x ∷ lines (drop 1 (drop at text))) (sym l) ∙ ap (λ (x : List ℕ). line ∷ lines x) (sym rest);
      shorter = subst (λ (x : List ℕ). length x < length text) (sym rest) (shorter_behind text at before.high);
    }

lines_last : (b : ℕ) (bs : List ℕ) → IsOneLine (b ∷ bs) → lines (b ∷ bs) ≡ (b ∷ bs) ∷ []
lines_last b [] h = ap (λ (x : Bool). cond x ([] ∷ []) ((b ∷ []) ∷ [])) (or_parts (b == 10) false h).0
lines_last b (c ∷ bs) h =
    let both = or_parts (b == 10) (list_any (λ x. x == 10) (c ∷ bs)) h in
    ap (λ (x : Bool). cond x ([] ∷ lines (c ∷ bs)) (before_lines b (lines (c ∷ bs)))) both.0
    ∙ ap (before_lines b) (lines_last c bs both.1)

drop_all : (text : List ℕ) → drop (length text) text ≡ []
drop_all [] = refl
drop_all (x ∷ text) = drop_all text

-- the last line needs no newline
pub whole_line : (text line behind : List ℕ) → (text ≡ [] → ⊥) → line ≡ take (length text) text → behind ≡ drop (length text) text
    → Nowhere (Passes (is_byte 10) text) 0 (length text) → IsFirstLine text line behind
whole_line [] line behind some l b none = absurd (some refl)
whole_line (x ∷ text) line behind some l b none =
    let whole : line ≡ x ∷ text = l ∙ take-length (x ∷ text) in
    let empty : behind ≡ [] = b ∙ drop_all (x ∷ text) in
    record {
      first = lines_last x text (solid 10 (x ∷ text) (λ k lt. false_from_ne_true (get_or (x ∷ text) k 0 == 10) (none k (omega arith) lt)))
          ∙ ap (λ (t : List ℕ). t ∷ []) (sym whole) ∙ ap (λ (t : List ℕ). line ∷ lines t) (sym empty);
      shorter = subst (λ (t : List ℕ). length t < length (x ∷ text)) (sym empty) (omega arith);
    }
