-- The next word of a text, from what a search for its ends finds.
use Rattle.std.proofs.Common.{◌≡◌, ℕ, zero, suc, ◌+◌, ◌<◌, ◌≤◌, ◌⊎◌, Bool, true, false, not, cond, ltb, List, [], ◌∷◌, ◌++◌, length, get_or, take, drop, Some, None, refl, sym, ◌∙◌, ap, subst, inl, inr, arith, append_assoc, append-nil, length-append, length-drop}
use Rattle.std.specs.List.{All, AllByRecursion, position, position_or_len}
use Rattle.std.proofs.Math.Seq.{take-add, take-append_seam, drop-append_seam, drop-cons}
use Rattle.std.proofs.lemmas.Bool.{both_ways, ltb-false, not-true, not-false}
use Rattle.std.proofs.lemmas.List.{take-append-drop, drop-drop, get_or-take, get_or-drop, length-take-le}
use Rattle.std.proofs.lemmas.List.Quantifiers.{position-Some}
use Rattle.std.proofs.lemmas.List.Sums.{fails_before_first}
use Rattle.std.proofs.lemmas.List.Elements.{All-tail}
use Rattle.use_flags.specs.Words.{words, EndsInBreak, BeginsWithBreak, IsFirstBad, IsNextWord}
use Rattle.use_flags.proofs.Cuts.{words-gap, words-more, good_among}
use Rattle.basics.proofs.Tests.{none_picked}
use Rattle.basics.specs.Blanks.{is_blank}

-- no element passes, where no first one is found
position-None : (p : ℕ → Bool) (xs : List ℕ) → position p xs ≡ None → All (λ x. p x ≡ false) xs
position-None p xs e k d within =
    let past : length xs ≤ position_or_len p xs = ltb-false _ _ (none_picked (ltb (position_or_len p xs) (length xs)) (position_or_len p xs) e) in
    fails_before_first p xs k d (omega arith)

first_part : (p : ℕ → Bool) (xs : List ℕ) (n : ℕ) → position p xs ≡ Some n → All (λ x. p x ≡ false) (take n xs)
first_part p xs n e k d within =
    let found = position-Some p xs n d e in
    let below : k < n = omega (arith, length-take-le n xs (omega (arith, found.0))) in
    rw (get_or-take n xs k d below) (found.2 k below)

last_white : (b : ℕ) (gap : List ℕ) → All (λ x. is_blank x ≡ true) (b ∷ gap) → (front : List ℕ) × (c : ℕ) × (is_blank c ≡ true) × (b ∷ gap ≡ front ++ (c ∷ []))
last_white b [] all = ([], b, all 0 b (omega arith), refl)
last_white b (g ∷ gap) all =
    let last = last_white g gap (All-tail (λ x. is_blank x ≡ true) b (g ∷ gap) all) in
    (b ∷ last.0, last.1, last.2, ap (λ xs. b ∷ xs) last.3)

ends_in_break : (xs gap word after : List ℕ) → (xs ≡ []) ⊎ BeginsWithBreak (gap ++ (word ++ after)) → All (λ x. is_blank x ≡ true) gap → 0 < length word → All (λ x. is_blank x ≡ false) word → EndsInBreak (xs ++ gap)
ends_in_break xs [] word after (inl e) all some solid = inl (append-nil xs ∙ e)
ends_in_break xs [] [] after (inr breaks) all some solid = absurd (omega arith)
ends_in_break xs [] (b ∷ word) after (inr breaks) all some solid = absurd (both_ways (is_blank b) (solid 0 b (omega arith)) breaks)
ends_in_break xs (g ∷ gap) word after apart all some solid =
    let last = last_white g gap all in
    inr (xs ++ last.0, last.1, last.2, ap (λ ys. xs ++ ys) last.3 ∙ sym (append_assoc xs last.0 (last.1 ∷ [])))

next_is : (bytes : List ℕ) (from gap : ℕ) (word after : List ℕ) → from ≤ length bytes → (from ≡ 0) ⊎ BeginsWithBreak (drop from bytes) → gap ≤ length (drop from bytes) → All (λ x. is_blank x ≡ true) (take gap (drop from bytes)) → drop gap (drop from bytes) ≡ word ++ after → 0 < length word → All (λ x. is_blank x ≡ false) word → BeginsWithBreak after → IsNextWord bytes from (from + gap) word
next_is bytes from gap word after within apart fits all parts some solid breaks =
    let at = from + gap in
    let rest : drop at bytes ≡ word ++ after = sym (drop-drop gap from bytes) ∙ parts in
    let tail : drop (at + length word) bytes ≡ after = sym (drop-drop (length word) at bytes) ∙ ap (drop (length word)) rest ∙ drop-append_seam word after in
    let front : take at bytes ≡ take from bytes ++ take gap (drop from bytes) = take-add from gap bytes in
    let longer : take (at + length word) bytes ≡ take at bytes ++ word = take-add at (length word) bytes ∙ ap (λ r. take at bytes ++ take (length word) r) rest ∙ ap (λ w. take at bytes ++ w) (take-append_seam word after) in
    let left : EndsInBreak (take at bytes) = subst EndsInBreak (sym front) (ends_in_break (take from bytes) (take gap (drop from bytes)) word after (begins apart) all some solid) in
    let same : words (take at bytes) ≡ words (take from bytes) = ap words front ∙ words-gap (take from bytes) (take gap (drop from bytes)) all in
    record {
      stands = record {
        cut = sym (take-append-drop at bytes) ∙ ap (λ r. take at bytes ++ r) (rest ∙ ap (λ a. word ++ a) (sym tail));
        some = some;
        solid = solid;
        left = left;
        right = subst BeginsWithBreak (sym tail) breaks;
      };
      onward = omega arith;
      within = omega (arith, length-drop from bytes, length-drop at bytes, length-append word after, ap length rest);
      same = same;
      more = ap words longer ∙ words-more (take at bytes) word left some solid ∙ ap (λ ws. ws ++ (word ∷ [])) same;
    }
  where
    begins : (from ≡ 0) ⊎ BeginsWithBreak (drop from bytes) → (take from bytes ≡ []) ⊎ BeginsWithBreak (take gap (drop from bytes) ++ (word ++ after))
    begins (inl e) = inl (ap (λ n. take n bytes) e)
    begins (inr b) = inr (subst BeginsWithBreak (sym (take-append-drop gap (drop from bytes)) ∙ ap (λ r. take gap (drop from bytes) ++ r) parts) b)

white_gap : (rest : List ℕ) (gap : ℕ) → position (λ b. not (is_blank b)) rest ≡ Some gap → All (λ x. is_blank x ≡ true) (take gap rest)
white_gap rest gap e k d within = not-false _ (first_part (λ b. not (is_blank b)) rest gap e k d within)

solid_head : (rest : List ℕ) (gap : ℕ) → position (λ b. not (is_blank b)) rest ≡ Some gap → is_blank (get_or (drop gap rest) 0 0) ≡ false
solid_head rest gap e =
    let solid : is_blank (get_or rest gap 0) ≡ false = not-true (is_blank (get_or rest gap 0)) (position-Some (λ b. not (is_blank b)) rest gap 0 e).1 in
    ap is_blank (get_or-drop gap rest 0 0 ∙ ap (λ n. get_or rest n 0) (omega arith)) ∙ solid

pub next_at_white : (bytes : List ℕ) (from gap len : ℕ) → from ≤ length bytes → (from ≡ 0) ⊎ BeginsWithBreak (drop from bytes) → position (λ b. not (is_blank b)) (drop from bytes) ≡ Some gap → position is_blank (drop gap (drop from bytes)) ≡ Some len → IsNextWord bytes from (from + gap) (take len (drop gap (drop from bytes)))
next_at_white bytes from gap len within apart e f =
    let rest = drop gap (drop from bytes) in
    let found = position-Some is_blank rest len 0 f in
    let gapped = position-Some (λ b. not (is_blank b)) (drop from bytes) gap 0 e in
    let size = length-take-le len rest (omega (arith, found.0)) in
    next_is bytes from gap (take len rest) (drop len rest) within apart (omega (arith, gapped.0)) (white_gap (drop from bytes) gap e) (sym (take-append-drop len rest)) (omega (arith, size, positive len (solid_head (drop from bytes) gap e) found.1)) (first_part is_blank rest len f) (subst BeginsWithBreak (sym (drop-cons rest len 0 found.0)) found.1)
  where
    positive : (n : ℕ) → is_blank (get_or (drop gap (drop from bytes)) 0 0) ≡ false → is_blank (get_or (drop gap (drop from bytes)) n 0) ≡ true → 0 < n
    positive zero solid blank = absurd (both_ways _ solid blank)
    positive (suc n) solid blank = omega arith

pub next_at_end : (bytes : List ℕ) (from gap : ℕ) → from ≤ length bytes → (from ≡ 0) ⊎ BeginsWithBreak (drop from bytes) → position (λ b. not (is_blank b)) (drop from bytes) ≡ Some gap → position is_blank (drop gap (drop from bytes)) ≡ None → IsNextWord bytes from (from + gap) (drop gap (drop from bytes))
next_at_end bytes from gap within apart e f =
    let rest = drop gap (drop from bytes) in
    let gapped = position-Some (λ b. not (is_blank b)) (drop from bytes) gap 0 e in
    next_is bytes from gap rest [] within apart (omega (arith, gapped.0)) (white_gap (drop from bytes) gap e) (sym (append-nil rest)) (omega (arith, gapped.0, length-drop gap (drop from bytes))) (position-None is_blank rest f) tt

pub no_next : (bytes : List ℕ) (from : ℕ) → position (λ b. not (is_blank b)) (drop from bytes) ≡ None → words bytes ≡ words (take from bytes)
no_next bytes from e =
    ap words (sym (take-append-drop from bytes)) ∙ words-gap (take from bytes) (drop from bytes) (λ k d within. not-false _ (position-None (λ b. not (is_blank b)) (drop from bytes) e k d within))

-- a word that is not good, behind good ones
pub first_bad : (P : List ℕ → Type 0) (bytes : List ℕ) (from at : ℕ) (word : List ℕ) → IsNextWord bytes from at word → AllByRecursion P (words (take from bytes)) → (P word → ⊥) → IsFirstBad P bytes at
first_bad P bytes from at word next good bad =
    let Q : List (List ℕ) → Type 0 = λ ws. AllByRecursion P ws in
    record {
      before = take at bytes;
      word = word;
      after = drop (at + length word) bytes;
      stands = next.stands;
      place = length-take-le at bytes (omega (arith, next.within));
      good = subst Q (sym next.same) good;
      bad = λ all. bad (good_among P (words (take at bytes)) word [] (subst Q (words-more (take at bytes) word next.stands.left next.stands.some next.stands.solid) all));
    }
