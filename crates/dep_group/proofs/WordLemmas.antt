-- The words of a text, one after another from the left.
use Rattle.std.specs.Prelude.{slice_range, not, nat_lt, ◌&&◌, if◌then◌else◌}
use Rattle.std.specs.List.{AllByRecursion, list_all}
use Rattle.std.proofs.Common.{◌≡◌, ℕ, zero, suc, ◌+◌, ◌-◌, ◌<◌, ◌≤◌, Bool, true, false, List, [], ◌∷◌, ◌++◌, length, get_or, drop, map, refl, ap, sym, append_assoc, append-nil, below_more, ◌∙◌, arith}
use Rattle.std.proofs.lemmas.Grind.{common_steps}
use Rattle.std.proofs.lemmas.List.{get_or-take, get_or-drop}
use Rattle.std.proofs.lemmas.List.Folds.{drop_split}
use Rattle.std.specs.Str.{IsUtf8, IsCharBoundary}
use Rattle.std.proofs.lemmas.Str.{IsCharBoundary-start, IsCharBoundary-after_ascii}
use Rattle.std.proofs.lemmas.Bool.Decides.{nat_tests}
use Rattle.std.proofs.Math.Seq.{drop-cons}
use Rattle.dep_group.specs.Words.{Spot, begins_word, with_letter, words, is_word, word_between, place, spaced_after, spaced, texts, words_of}
use Rattle.dep_group.specs.Views.{spot}
use Rattle.dep_group.specs.declared.word.Word.{Word}
use Rattle.std.proofs.lemmas.Bool.{and_parts, not-true}
use Rattle.basics.proofs.BlankBytes.{is_blank-small}
use Rattle.basics.specs.Blanks.{is_blank}

is_word-first : (b : ℕ) (w : List ℕ) → is_word (b ∷ w) ≡ true → not (is_blank b) ≡ true
is_word-first b [] h = h
is_word-first b (c ∷ w) h = (and_parts (not (is_blank b)) (is_word (c ∷ w)) h).0

-- a blank is no part of a word
pub words-blank : (at b : ℕ) (bs : List ℕ) → is_blank b ≡ true → words at (b ∷ bs) ≡ words (at + 1) bs
words-blank at b bs h = ap (λ r. if r then words (at + 1) bs else with_letter at b (begins_word bs) (words (at + 1) bs)) h

words-letter : (at b : ℕ) (bs : List ℕ) → not (is_blank b) ≡ true → words at (b ∷ bs) ≡ with_letter at b (begins_word bs) (words (at + 1) bs)
words-letter at b bs h = ap (λ r. if r then words (at + 1) bs else with_letter at b (begins_word bs) (words (at + 1) bs)) (not-true (is_blank b) h)

-- what begins with a word and a blank
pub words-word_blank : (at b : ℕ) (w bs : List ℕ) → is_word w ≡ true → is_blank b ≡ true → words at (w ++ (b ∷ bs)) ≡ record { at = at; bytes = w } ∷ words (at + length w + 1) bs
words-word_blank at b [] bs h e = absurd (cc)
words-word_blank at b (c ∷ []) bs h e =
    words-letter at c (b ∷ bs) h
    ∙ ap (λ r. with_letter at c (not r) (words (at + 1) (b ∷ bs))) e
    ∙ ap (λ ws. record { at = at; bytes = c ∷ [] } ∷ ws) (words-blank (at + 1) b bs e)
words-word_blank at b (c ∷ (d ∷ w)) bs h e =
    words-letter at c ((d ∷ w) ++ (b ∷ bs)) (and_parts (not (is_blank c)) (is_word (d ∷ w)) h).0
    ∙ ap (λ r. with_letter at c r (words (at + 1) ((d ∷ w) ++ (b ∷ bs)))) (is_word-first d w (and_parts (not (is_blank c)) (is_word (d ∷ w)) h).1)
    ∙ ap (λ ws. with_letter at c true ws) (words-word_blank (at + 1) b (d ∷ w) bs (and_parts (not (is_blank c)) (is_word (d ∷ w)) h).1 e)
    ∙ ap (λ n. record { at = at; bytes = c ∷ (d ∷ w) } ∷ words n bs) (omega arith)

-- what is one word to its end
pub words-word : (at : ℕ) (w : List ℕ) → is_word w ≡ true → words at w ≡ record { at = at; bytes = w } ∷ []
words-word at [] h = absurd (cc)
words-word at (c ∷ []) h = words-letter at c [] h
words-word at (c ∷ (d ∷ w)) h =
    words-letter at c (d ∷ w) (and_parts (not (is_blank c)) (is_word (d ∷ w)) h).0
    ∙ ap (λ r. with_letter at c r (words (at + 1) (d ∷ w))) (is_word-first d w (and_parts (not (is_blank c)) (is_word (d ∷ w)) h).1)
    ∙ ap (λ ws. with_letter at c true ws) (words-word (at + 1) (d ∷ w) (and_parts (not (is_blank c)) (is_word (d ∷ w)) h).1)

-- bytes none of which is a blank are a word
pub is_word-letters : (b : ℕ) (w : List ℕ) → ((k : ℕ) → k < length (b ∷ w) → is_blank (get_or (b ∷ w) k 0) ≡ false) → is_word (b ∷ w) ≡ true
is_word-letters b [] h = ap not (h 0 (omega arith))
is_word-letters b (c ∷ w) h = ap (λ r. not r && is_word (c ∷ w)) (h 0 (omega arith)) ∙ is_word-letters c w (λ k l. h (suc k) (omega arith))

is_word-of : (w : List ℕ) → 0 < length w → ((k : ℕ) → k < length w → is_blank (get_or w k 0) ≡ false) → is_word w ≡ true
is_word-of [] some h = absurd (omega arith)
is_word-of (b ∷ w) some h = is_word-letters b w h

-- no byte of the text from `start` to `end` is a blank
abbrev pub AreLetters : List ℕ → ℕ → ℕ → Type 0
AreLetters text start end = (k : ℕ) → start ≤ k → k < end → is_blank (get_or text k 0) ≡ false

is_word-range : (text : List ℕ) (start end : ℕ) → start < end → end ≤ length text → AreLetters text start end → is_word (slice_range text start end) ≡ true
is_word-range text start end some within letters =
    is_word-of (slice_range text start end) (grind (arith, common_steps))
    (λ k l. let short : k < end - start = grind (arith, common_steps) in
    ap is_blank (get_or-take (end - start) (drop start text) k 0 short ∙ get_or-drop start text k 0) ∙ letters (start + k) (omega arith) (omega arith))

-- the word that ends at a blank comes first of those that begin with it
pub words-first : (text : List ℕ) (start end : ℕ) → start < end → end < length text → AreLetters text start end → is_blank (get_or text end 0) ≡ true → words start (drop start text) ≡ record { at = start; bytes = slice_range text start end } ∷ words (end + 1) (drop (end + 1) text)
words-first text start end some within letters blank =
    ap (words start) (drop_split text start end (omega arith) ∙ ap (λ r. slice_range text start end ++ r) (drop-cons text end 0 within))
    ∙ words-word_blank start (get_or text end 0) (slice_range text start end) (drop (suc end) text) (is_word-range text start end some (omega arith) letters) blank
    ∙ (let long : start + length (slice_range text start end) + 1 ≡ end + 1 = grind (arith, common_steps) in
    let same : suc end ≡ end + 1 = omega arith in
    ap (λ n. record { at = start; bytes = slice_range text start end } ∷ words n (drop (suc end) text)) long
    ∙ ap (λ n. record { at = start; bytes = slice_range text start end } ∷ words (end + 1) (drop n text)) same)

-- a blank where no word has begun is passed over
pub words-past_blank : (text : List ℕ) (at : ℕ) → at < length text → is_blank (get_or text at 0) ≡ true → words at (drop at text) ≡ words (at + 1) (drop (at + 1) text)
words-past_blank text at within blank =
    ap (words at) (drop-cons text at 0 within)
    ∙ words-blank at (get_or text at 0) (drop (suc at) text) blank
    ∙ (let same : suc at ≡ at + 1 = omega arith in ap (λ n. words (at + 1) (drop n text)) same)

-- the word that ends with the text is the last
pub words-last : (text : List ℕ) (start : ℕ) → start < length text → AreLetters text start (length text) → words start (drop start text) ≡ record { at = start; bytes = drop start text } ∷ []
words-last text start some letters =
    words-word start (drop start text)
    (is_word-of (drop start text) (grind (arith, common_steps))
    (λ k l. let short : start + k < length text = grind (arith, common_steps) in
    ap is_blank (get_or-drop start text k 0) ∙ letters (start + k) (omega arith) short))

-- up to a blank there is the word that ends there, if one has begun
pub words-up_to_blank : (text : List ℕ) (start end : ℕ) → start ≤ end → end < length text → AreLetters text start end → is_blank (get_or text end 0) ≡ true → words start (drop start text) ≡ word_between text start end ++ words (end + 1) (drop (end + 1) text)
words-up_to_blank text start end order within letters blank = go (nat_lt start end) refl
  where
    go : (b : Bool) → nat_lt start end ≡ b → words start (drop start text) ≡ (if b then record { at = start; bytes = slice_range text start end } ∷ [] else []) ++ words (end + 1) (drop (end + 1) text)
    go true e = words-first text start end (grind (arith, nat_tests, e)) within letters blank
    go false e = let same : start ≡ end = grind (arith, nat_tests, e) in rw same (words-past_blank text end within blank)

-- to its end the text has the last word, if one has begun
pub words-to_end : (text : List ℕ) (start : ℕ) → start ≤ length text → AreLetters text start (length text) → words start (drop start text) ≡ word_between text start (length text)
words-to_end text start order letters = go (nat_lt start (length text)) refl
  where
    go : (b : Bool) → nat_lt start (length text) ≡ b → words start (drop start text) ≡ (if b then record { at = start; bytes = slice_range text start (length text) } ∷ [] else [])
    go true e =
        words-last text start (grind (arith, nat_tests, e)) letters
        ∙ ap (λ r. record { at = start; bytes = r } ∷ []) (grind (arith, common_steps))
    go false e = let none : drop start text ≡ [] = grind (arith, common_steps, nat_tests, e) in ap (words start) none

pub place-at : (ws : List Word) (i : ℕ) (w : Word) → i < length ws → (get_or ws i w).at ≡ place (map spot ws) i
place-at [] i w within = absurd (omega arith)
place-at (v ∷ ws) zero w within = refl
place-at (v ∷ ws) (suc i) w within = place-at ws i w (omega arith)

-- each of the words has what all have
pub each_at : (P : List ℕ → Type 0) (ws : List Word) (i : ℕ) (d : Word) → i < length ws → AllByRecursion P (texts (map spot ws)) → P (get_or ws i d).text.now
each_at P [] i d lt all = absurd (omega (arith, lt))
each_at P (w ∷ ws) zero d lt all = all.0
each_at P (w ∷ ws) (suc i) d lt all = each_at P ws i d (omega (arith, lt)) all.1

-- the words that end before `i` are found, and `start` is where the next one has begun, or may begin
pub record HasRead (text : List ℕ) (found : List Spot) (start i : ℕ) : Type 0 where
  pub reached : start ≤ i
  pub boundary : IsCharBoundary text start
  pub letters : AreLetters text start i
  pub rest : found ++ words start (drop start text) ≡ words 0 text

pub HasRead-start : (text : List ℕ) → IsUtf8 text → HasRead text [] 0 0
HasRead-start text utf8 = record {
  reached = omega arith;
  boundary = IsCharBoundary-start text utf8;
  letters = λ k low high. absurd (omega arith);
  rest = refl;
}

pub HasRead-blank : (text : List ℕ) (found found' : List Spot) (start start' i : ℕ) → IsUtf8 text → i < length text → is_blank (get_or text i 0) ≡ true → found' ≡ found ++ word_between text start i → start' ≡ i + 1 → HasRead text found start i → HasRead text found' start' (i + 1)
HasRead-blank text found found' start start' i utf8 within blank found_is start_is h = record {
  reached = omega arith;
  boundary = rw start_is (IsCharBoundary-after_ascii text i utf8 within (is_blank-small (get_or text i 0) blank));
  letters = λ k low high. absurd (omega arith);
  rest =
      ap (λ f. f ++ words start' (drop start' text)) found_is
      ∙ ap (λ s. (found ++ word_between text start i) ++ words s (drop s text)) start_is
      ∙ append_assoc found (word_between text start i) (words (i + 1) (drop (i + 1) text))
      ∙ ap (λ r. found ++ r) (sym (words-up_to_blank text start i h.reached within h.letters blank))
      ∙ h.rest;
}

pub HasRead-letter : (text : List ℕ) (found found' : List Spot) (start start' i : ℕ) → is_blank (get_or text i 0) ≡ false → found' ≡ found → start' ≡ start → HasRead text found start i → HasRead text found' start' (i + 1)
HasRead-letter text found found' start start' i letter found_is start_is h = rw (found_is, start_is) (record {
  reached = let r = h.reached in omega arith;
  boundary = h.boundary;
  letters = λ k low high. below_one i (λ j. start ≤ j → is_blank (get_or text j 0) ≡ false) (λ j l s. h.letters j s l) (λ _. letter) k high low;
  rest = h.rest;
})
  where
    below_one : (n : ℕ) (P : ℕ → Type 0) → ((j : ℕ) → j < n → P j) → P n → (j : ℕ) → j < n + 1 → P j
    below_one n P before here = below_more P n before here

pub HasRead-end : (text : List ℕ) (found : List Spot) (start i : ℕ) → length text ≤ i → start ≤ length text → HasRead text found start i → found ++ word_between text start (length text) ≡ words 0 text
HasRead-end text found start i past order h =
    ap (λ r. found ++ r) (sym (words-to_end text start order (λ k low high. h.letters k low (omega arith)))) ∙ h.rest

with_letter-words : (at b : ℕ) (joins : Bool) (ws : List Spot) → not (is_blank b) ≡ true → list_all is_word (texts ws) ≡ true → list_all is_word (texts (with_letter at b joins ws)) ≡ true
with_letter-words at b true [] h hs = ap (λ r. r && true) h
with_letter-words at b true (w ∷ ws) h hs =
    ap (λ r. r && list_all is_word (texts ws)) (is_word-before b w.bytes h (and_parts (is_word w.bytes) (list_all is_word (texts ws)) hs).0)
    ∙ (and_parts (is_word w.bytes) (list_all is_word (texts ws)) hs).1
  where
    is_word-before : (b : ℕ) (w : List ℕ) → not (is_blank b) ≡ true → is_word w ≡ true → is_word (b ∷ w) ≡ true
    is_word-before b [] h k = absurd (cc)
    is_word-before b (c ∷ w) h k = ap (λ r. r && is_word (c ∷ w)) h ∙ k
with_letter-words at b false ws h hs = ap (λ r. r && list_all is_word (texts ws)) h ∙ hs

-- each word of a text has bytes, and no blank among them
pub words-are_words : (at : ℕ) (bs : List ℕ) → list_all is_word (texts (words at bs)) ≡ true
words-are_words at [] = refl
words-are_words at (b ∷ bs) = go (words-are_words (at + 1) bs) (is_blank b) refl
  where
    go : list_all is_word (texts (words (at + 1) bs)) ≡ true → (r : Bool) → is_blank b ≡ r → list_all is_word (texts (if r then words (at + 1) bs else with_letter at b (begins_word bs) (words (at + 1) bs))) ≡ true
    go h true e = h
    go h false e = with_letter-words at b (begins_word bs) (words (at + 1) bs) (ap not e) h

-- the words with a space between each two, from the right
abbrev joined : List (List ℕ) → List ℕ
joined [] = []
joined (w ∷ []) = w
joined (w ∷ (v ∷ ws)) = w ++ (32 ∷ joined (v ∷ ws))

texts-joined : (at : ℕ) (ws : List (List ℕ)) → list_all is_word ws ≡ true → texts (words at (joined ws)) ≡ ws
texts-joined at [] h = refl
texts-joined at (w ∷ []) h = ap texts (words-word at w (and_parts (is_word w) true h).0)
texts-joined at (w ∷ (v ∷ ws)) h =
    ap texts (words-word_blank at 32 w (joined (v ∷ ws)) (and_parts (is_word w) (list_all is_word (v ∷ ws)) h).0 refl)
    ∙ ap (λ r. w ∷ r) (texts-joined (at + length w + 1) (v ∷ ws) (and_parts (is_word w) (list_all is_word (v ∷ ws)) h).1)

-- the words with a space before each
abbrev preceded : List (List ℕ) → List ℕ
preceded [] = []
preceded (w ∷ ws) = (32 ∷ w) ++ preceded ws

spaced_after-some : (b : ℕ) (text : List ℕ) (ws : List (List ℕ)) → spaced_after (b ∷ text) ws ≡ (b ∷ text) ++ preceded ws
spaced_after-some b text [] = sym (append-nil (b ∷ text))
spaced_after-some b text (w ∷ ws) =
    spaced_after-some b ((text ++ 32 ∷ []) ++ w) ws
    ∙ ap (λ r. b ∷ r) (append_assoc (text ++ 32 ∷ []) w (preceded ws) ∙ append_assoc text (32 ∷ []) (w ++ preceded ws))

joined-preceded : (w : List ℕ) (ws : List (List ℕ)) → joined (w ∷ ws) ≡ w ++ preceded ws
joined-preceded w [] = sym (append-nil w)
joined-preceded w (v ∷ ws) = ap (λ r. w ++ (32 ∷ r)) (joined-preceded v ws)

spaced-joined : (ws : List (List ℕ)) → list_all is_word ws ≡ true → spaced ws ≡ joined ws
spaced-joined [] h = refl
spaced-joined ([] ∷ ws) h = absurd (cc)
spaced-joined ((b ∷ w) ∷ ws) h = spaced_after-some b w ws ∙ sym (joined-preceded (b ∷ w) ws)

-- words with a space between each two are read back
pub words_of-spaced : (ws : List (List ℕ)) → list_all is_word ws ≡ true → words_of (spaced ws) ≡ ws
words_of-spaced ws h = ap words_of (spaced-joined ws h) ∙ texts-joined 0 ws h
