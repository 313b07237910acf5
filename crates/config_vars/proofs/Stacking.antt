-- One assignment, one file and one word more.
use denote.Ref.{Bor}
use Rattle.std.specs.Prelude.{◌≡◌, codes, fold}
use Rattle.std.proofs.Common.{◌∙◌, ◌+◌, ◌<◌, ℕ, Bool, false, cond, List, [], ◌∷◌, ◌++◌, Option, append-nil, append_assoc, ap, filter, get_or, length, map, sym, take}
use Rattle.std.specs.List.{AllByRecursion, find, flat_map}
use Rattle.std.specs.Option.{option_map, option_or}
use Rattle.std.proofs.lemmas.List.{map-append, reverse-append, take_more}
use Rattle.std.proofs.lemmas.List.Concat.{flat_map-append}
use Rattle.std.proofs.lemmas.List.Elements.{filter-append}
use Rattle.std.proofs.lemmas.List.Folds.{find-append}
use Rattle.std.proofs.lemmas.List.Sums.{fold-append}
use mathlib.Core.List.{reverse}
use Rattle.basics.proofs.Tests.{map-or}
use Rattle.basics.proofs.Texts.{bytes_eq-same}
use Rattle.config_text.specs.declared.assignment.Assignment.{Assignment}
use Rattle.dep_group.specs.Views.{spot}
use Rattle.dep_group.specs.Words.{Spot, texts}
use Rattle.dep_group.specs.declared.word.Word.{Word}
use Rattle.config_vars.specs.Values.{is_clear, is_expanded, is_of, last_value, since_clear, value_in, with_word, words_in, words_said}
use Rattle.config_vars.specs.declared.vars.FileVars.{FileVars}

-- what the texts hold
abbrev pub told : List (Bor (List ℕ)) → List (List ℕ)
told xs = map {A = Bor (List ℕ)} {B = List ℕ} (λ x. x.now) xs

-- what the text holds, if there is one
abbrev pub held : Option (Bor (List ℕ)) → Option (List ℕ)
held o = option_map (λ (x : Bor (List ℕ)). x.now) o

pub value-append : (key : List ℕ) (xs ys : List Assignment) → value_in key (xs ++ ys) ≡ option_or (value_in key ys) (value_in key xs)
value-append key xs ys =
    ap (λ (xs : List Assignment). option_map (λ (a : Assignment). a.value) (find (is_of key) xs)) (reverse-append xs ys)
    ∙ (ap (option_map (λ (a : Assignment). a.value)) (find-append (is_of key) (reverse ys) (reverse xs))
    ∙ map-or (λ (a : Assignment). a.value) (find (is_of key) (reverse ys)) (find (is_of key) (reverse xs)))

-- the elements up to the next
pub next : {A : Type 0} (xs : List A) (i : ℕ) (x : A) → i < length xs → x ≡ get_or xs i x → take (i + 1) xs ≡ take i xs ++ x ∷ []
next {A = A} xs i x lt is = take_more xs i x lt ∙ ap (λ (y : A). take i xs ++ y ∷ []) (sym is)

pub next_value : (key : List ℕ) (xs : List Assignment) (i : ℕ) (a : Assignment) (own old new : Option (Bor (List ℕ))) → i < length xs → a ≡ get_or xs i a → new ≡ option_or own old → held own ≡ value_in key (a ∷ []) → held old ≡ value_in key (take i xs) → held new ≡ value_in key (take (i + 1) xs)
next_value key xs i a own old new lt is joined mine before =
    ap held joined
    ∙ (map-or (λ (x : Bor (List ℕ)). x.now) own old
    ∙ (ap (λ (o : Option (List ℕ)). option_or o (held old)) mine
    ∙ (ap (option_or (value_in key (a ∷ []))) before
    ∙ (sym (value-append key (take i xs) (a ∷ []))
    ∙ ap (value_in key) (sym (next xs i a lt is))))))

abbrev all_of : List FileVars → List Assignment
all_of files = flat_map (λ f. f.assigned.items) files

pub next_file : (key : List ℕ) (files : List FileVars) (i : ℕ) (f : FileVars) (own old new : Option (Bor (List ℕ))) → i < length files → f ≡ get_or files i f → new ≡ option_or own old → held own ≡ value_in key f.assigned.items → held old ≡ last_value key (take i files) → held new ≡ last_value key (take (i + 1) files)
next_file key files i f own old new lt is joined mine before =
    ap held joined
    ∙ (map-or (λ (x : Bor (List ℕ)). x.now) own old
    ∙ (ap (λ (o : Option (List ℕ)). option_or o (held old)) mine
    ∙ (ap (option_or (value_in key f.assigned.items)) before
    ∙ (sym (value-append key (all_of (take i files)) f.assigned.items)
    ∙ ap (value_in key) (sym (
    ap all_of (next files i f lt is)
    ∙ (flat_map-append (λ (g : FileVars). g.assigned.items) (take i files) (f ∷ [])
    ∙ ap (λ (xs : List Assignment). all_of (take i files) ++ xs) (append-nil f.assigned.items))))))))

-- one word more
pub next_word : (since : List (List ℕ)) (ws : List Word) (i : ℕ) (d : Word) (old new : List (List ℕ)) → i < length ws → new ≡ with_word old (get_or ws i d).text.now → old ≡ fold with_word since (texts (map spot (take i ws))) → new ≡ fold with_word since (texts (map spot (take (i + 1) ws)))
next_word since ws i d old new lt step before =
    let w = get_or ws i d in
    step
    ∙ (ap (λ (l : List (List ℕ)). with_word l w.text.now) before
    ∙ (sym (fold-append with_word since (texts (map spot (take i ws))) (w.text.now ∷ []))
    ∙ ap (fold with_word since) (sym (
    ap (λ (l : List Word). texts (map spot l)) (take_more ws i d lt)
    ∙ (ap texts (map-append spot (take i ws) (w ∷ []))
    ∙ map-append (λ (s : Spot). s.bytes) (map spot (take i ws)) (spot w ∷ []))))))

-- the words of one file more
pub next_words : (key : List ℕ) (files : List FileVars) (i : ℕ) (f : FileVars) (old new : List (List ℕ)) → i < length files → f ≡ get_or files i f → new ≡ fold with_word old (words_in key f) → old ≡ since_clear (words_said key (take i files)) → new ≡ since_clear (words_said key (take (i + 1) files))
next_words key files i f old new lt is step before =
    step
    ∙ (ap (λ (l : List (List ℕ)). fold with_word l (words_in key f)) before
    ∙ (sym (fold-append with_word [] (words_said key (take i files)) (words_in key f))
    ∙ ap since_clear (sym (
    ap (words_said key) (next files i f lt is)
    ∙ (flat_map-append (words_in key) (take i files) (f ∷ [])
    ∙ ap (λ (l : List (List ℕ)). words_said key (take i files) ++ l) (append-nil (words_in key f)))))))

-- one variable more
pub next_kept : (named : List (Bor (List ℕ))) (i : ℕ) (d : Bor (List ℕ)) (old new : List (List ℕ)) → i < length named → new ≡ old ++ filter is_expanded ((get_or named i d).now ∷ []) → old ≡ filter is_expanded (told (take i named)) → new ≡ filter is_expanded (told (take (i + 1) named))
next_kept named i d old new lt step before =
    let v = get_or named i d in
    step
    ∙ (ap (λ (l : List (List ℕ)). l ++ filter is_expanded (v.now ∷ [])) before
    ∙ (sym (filter-append is_expanded (told (take i named)) (v.now ∷ []))
    ∙ ap (filter is_expanded) (sym (
    ap told (take_more named i d lt)
    ∙ map-append (λ (x : Bor (List ℕ)). x.now) (take i named) (v ∷ [])))))

-- words without `-*` all stand behind those before them
pub uncleared : (since words : List (List ℕ)) → AllByRecursion (λ (w : List ℕ). is_clear w ≡ false) words → fold with_word since words ≡ since ++ words
uncleared since [] none = sym (append-nil since)
uncleared since (w ∷ words) none =
    ap (λ (b : Bool). fold with_word (cond b [] (since ++ w ∷ [])) words) none.0
    ∙ (uncleared (since ++ w ∷ []) words none.1
    ∙ append_assoc since (w ∷ []) words)

-- and behind a `-*` they alone stand
pub behind_clear : (front words : List (List ℕ)) → AllByRecursion (λ (w : List ℕ). is_clear w ≡ false) words → since_clear (front ++ (codes "-*" ∷ words)) ≡ words
behind_clear front words none =
    fold-append with_word [] front (codes "-*" ∷ words)
    ∙ (ap (λ (b : Bool). fold with_word (cond b [] (since_clear front ++ codes "-*" ∷ [])) words) (bytes_eq-same (codes "-*"))
    ∙ uncleared [] words none)
