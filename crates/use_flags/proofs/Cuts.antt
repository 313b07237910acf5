-- The words of a text that is put together.
use Rattle.std.proofs.Common.{◌≡◌, ℕ, ◌<◌, Bool, true, false, List, [], ◌∷◌, ◌++◌, length, refl, sym, ◌∙◌, ap, subst, inl, inr, arith, append_assoc, append-nil}
use Rattle.std.specs.List.{All, AllByRecursion, slice_split, onto_first, filter}
use Rattle.std.proofs.lemmas.Bool.{cases_Bool}
use Rattle.std.proofs.lemmas.List.Elements.{filter-append, All-tail}
use Rattle.std.proofs.lemmas.List.Splits.{slice_split-cons_yes, slice_split-cons_no, slice_split_none}
use Rattle.use_flags.specs.Words.{has_bytes, words, EachWord, EndsInBreak, IsWordBetween, IsFirstBad}
use Rattle.basics.specs.Blanks.{is_blank}

onto_first-append : (x : ℕ) (part : List ℕ) (parts more : List (List ℕ)) → onto_first x ((part ∷ parts) ++ more) ≡ onto_first x (part ∷ parts) ++ more
onto_first-append x part parts more = refl

-- a split has a first part
record Some (parts : List (List ℕ)) : Type 0 where
  first : List ℕ
  others : List (List ℕ)
  is : parts ≡ first ∷ others

some_part : (xs : List ℕ) → Some (slice_split is_blank xs)
some_part [] = record { first = []; others = []; is = refl }
some_part (x ∷ xs) = elim (cases_Bool (is_blank x)) [
  | inl blank ↦ record { first = []; others = slice_split is_blank xs; is = slice_split-cons_yes is_blank x xs blank }
  | inr solid ↦
      let s = some_part xs in
      record { first = x ∷ s.first; others = s.others; is = slice_split-cons_no is_blank x xs solid ∙ ap (onto_first x) s.is }
]

slice_split-append : (xs : List ℕ) (y : ℕ) (ys : List ℕ) → is_blank y ≡ true → slice_split is_blank (xs ++ y ∷ ys) ≡ slice_split is_blank xs ++ slice_split is_blank ys
slice_split-append [] y ys e = slice_split-cons_yes is_blank y ys e
slice_split-append (x ∷ xs) y ys e = elim (cases_Bool (is_blank x)) [
  | inl blank ↦
      rw (slice_split-cons_yes is_blank x (xs ++ y ∷ ys) blank, slice_split-cons_yes is_blank x xs blank, slice_split-append xs y ys e)
  | inr solid ↦
      let s = some_part xs in
      slice_split-cons_no is_blank x (xs ++ y ∷ ys) solid ∙ ap (onto_first x) (slice_split-append xs y ys e ∙ ap (λ p. p ++ slice_split is_blank ys) s.is) ∙ ap (λ p. p ++ slice_split is_blank ys) (sym (slice_split-cons_no is_blank x xs solid ∙ ap (onto_first x) s.is))
]

pub words-append : (xs : List ℕ) (y : ℕ) (ys : List ℕ) → is_blank y ≡ true → words (xs ++ y ∷ ys) ≡ words xs ++ words ys
words-append xs y ys e =
    ap (filter has_bytes) (slice_split-append xs y ys e) ∙ filter-append has_bytes (slice_split is_blank xs) (slice_split is_blank ys)

pub words-white : (gap : List ℕ) → All (λ b. is_blank b ≡ true) gap → words gap ≡ []
words-white [] all = refl
words-white (b ∷ gap) all = words-append [] b gap (all 0 b (omega arith)) ∙ words-white gap (All-tail (λ b. is_blank b ≡ true) b gap all)

pub words-solid : (word : List ℕ) → 0 < length word → All (λ b. is_blank b ≡ false) word → words word ≡ word ∷ []
words-solid [] some all = absurd (omega arith)
words-solid (b ∷ word) some all = ap (filter has_bytes) (slice_split_none is_blank (b ∷ word) all)

-- a gap adds no word
pub words-gap : (xs gap : List ℕ) → All (λ b. is_blank b ≡ true) gap → words (xs ++ gap) ≡ words xs
words-gap xs [] all = ap words (append-nil xs)
words-gap xs (b ∷ gap) all = words-append xs b gap (all 0 b (omega arith)) ∙ ap (λ ws. words xs ++ ws) (words-white gap (All-tail (λ b. is_blank b ≡ true) b gap all)) ∙ append-nil (words xs)

-- a word behind a break is one more
pub words-more : (xs word : List ℕ) → EndsInBreak xs → 0 < length word → All (λ b. is_blank b ≡ false) word → words (xs ++ word) ≡ words xs ++ (word ∷ [])
words-more xs word (inl none) some solid = rw none (words-solid word some solid)
words-more xs word (inr cut) some solid =
    let front = cut.0 in
    let b = cut.1 in
    let e = cut.3 in
    let one : words (xs ++ word) ≡ words front ++ (word ∷ []) = ap (λ zs. words (zs ++ word)) e ∙ ap words (append_assoc front (b ∷ []) word) ∙ words-append front b word cut.2 ∙ ap (λ ws. words front ++ ws) (words-solid word some solid) in
    let two : words xs ≡ words front = ap words e ∙ words-append front b [] cut.2 ∙ append-nil (words front) in
    one ∙ ap (λ ws. ws ++ (word ∷ [])) (sym two)

-- the words of a text around one of them
pub words-around : (before word after bytes : List ℕ) → IsWordBetween before word after bytes → (more : List (List ℕ)) × (words bytes ≡ words before ++ (word ∷ more))
words-around before word [] bytes s =
    ([], ap words s.cut ∙ ap (λ w. words (before ++ w)) (append-nil word) ∙ words-more before word s.left s.some s.solid)
words-around before word (b ∷ after) bytes s =
    (words after, ap words s.cut ∙ ap words (sym (append_assoc before word (b ∷ after))) ∙ words-append (before ++ word) b after s.right ∙ ap (λ ws. ws ++ words after) (words-more before word s.left s.some s.solid) ∙ append_assoc (words before) (word ∷ []) (words after))

pub good_among : (P : List ℕ → Type 0) (front : List (List ℕ)) (word : List ℕ) (more : List (List ℕ)) → AllByRecursion P (front ++ (word ∷ more)) → P word
good_among P [] word more all = all.0
good_among P (x ∷ front) word more all = good_among P front word more all.1

pub all_good-more : (P : List ℕ → Type 0) (ws : List (List ℕ)) (word : List ℕ) → AllByRecursion P ws → P word → AllByRecursion P (ws ++ (word ∷ []))
all_good-more P [] word all good = (good, tt)
all_good-more P (x ∷ ws) word all good = (all.0, all_good-more P ws word all.1 good)

-- a text with a good word more is in form
pub good_with : (P : List ℕ → Type 0) (before word : List ℕ) → EndsInBreak before → 0 < length word → All (λ b. is_blank b ≡ false) word → EachWord P before → P word → EachWord P (before ++ word)
good_with P before word left some solid good is =
    let Q : List (List ℕ) → Type 0 = λ ws. AllByRecursion P ws in
    subst Q (sym (words-more before word left some solid)) (all_good-more P (words before) word good is)

-- the word is not good, where the text is not in form with it
pub bad_word : (P : List ℕ → Type 0) (bytes : List ℕ) (at : ℕ) (first : IsFirstBad P bytes at) → P first.word → ⊥
bad_word P bytes at first is = first.bad (good_with P first.before first.word first.stands.left first.stands.some first.stands.solid first.good is)

-- a text of good words has no bad one
pub no_bad_word : (P : List ℕ → Type 0) (bytes : List ℕ) (at : ℕ) → EachWord P bytes → IsFirstBad P bytes at → ⊥
no_bad_word P bytes at all first =
    let around = words-around first.before first.word first.after bytes first.stands in
    let Q : List (List ℕ) → Type 0 = λ ws. AllByRecursion P ws in
    bad_word P bytes at first (good_among P (words first.before) first.word around.0 (subst Q around.1 all))
