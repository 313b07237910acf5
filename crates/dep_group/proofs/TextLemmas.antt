-- What the reading of a text finds.
use Rattle.std.specs.Prelude.{map, Ok, Err, None}
use Rattle.std.proofs.Common.{◌≡◌, ◌≢◌, ℕ, Bool, List, [], ◌∷◌, ◌++◌, ◌+◌, ◌<◌, length, take, get_or, refl, ap, sym, ◌∙◌, subst}
use Rattle.std.proofs.lemmas.List.{map-append}
use Rattle.dep_group.specs.declared.token.Opener.{Opener}
use Rattle.dep_group.specs.declared.token.GroupFault.{GroupFault}
use Rattle.dep_group.specs.declared.token.GroupFault.TheVariants as faults
use Rattle.dep_group.specs.declared.token.Token.{Token}
use Rattle.dep_group.specs.declared.token.Token.TheVariants.{Begins, Leaf, Unknown}
use Rattle.dep_group.specs.declared.shape.Shape.TheVariants as shapes
use Rattle.dep_group.specs.declared.word.Word.{Word}
use Rattle.dep_group.specs.Maps.{token_map}
use Rattle.dep_group.specs.Reading.{read, list_of}
use Rattle.dep_group.specs.Shapes.{shape}
use Rattle.dep_group.specs.Texts.{FirstFault, IsMemory, Writes, WritesSome, placed}
use Rattle.dep_group.specs.Tokens.{AreOnlyTokens, Grammar, IsLeafWord, IsOnlyLeaf, IsOnlyToken, IsOpener, opener_shape, opener_text}
use Rattle.dep_group.specs.Trees.{Tree, Trees, trees_of, is_any_of}
use Rattle.dep_group.specs.Views.{spot}
use Rattle.dep_group.specs.Words.{Spot, texts, words, words_of}
use Rattle.dep_group.proofs.OnceLemmas.{OneMark, no_word_fault, one_word_fault}
use Rattle.dep_group.proofs.ReadingLemmas.{both, of_ok, trees_of-list_of}
use Rattle.dep_group.proofs.StopLemmas.{first_word_fault, memory_word_fault}
use Rattle.dep_group.proofs.TokenLemmas.{only_tokens, read-in_form, in_form-read, EachWord-more, unknown-item}
use Rattle.dep_group.proofs.WordLemmas.{words-are_words}

-- the opener of the code stands for this one, which the word is
pub begins-token : {L : Type 0} (g : Grammar L) (w : List ℕ) (o p : Opener (List ℕ)) → p ≡ o → IsOpener g o → w ≡ opener_text o → shape g.brackets w ≡ opener_shape o → IsOnlyToken g w (Begins p)
begins-token g w o p e is text h = let P : Opener (List ℕ) → Type 0 = λ q. IsOnlyToken g w (Begins q) in subst P (sym e) (text, is, h)

pub leaf-token : {L : Type 0} (g : Grammar L) (w : List ℕ) (a : L) → shape g.brackets w ≡ shapes.Item → IsOnlyLeaf g w a → IsOnlyToken g w (Leaf a)
leaf-token g w a h leaf = ((leaf.spelled, leaf.is_leaf, h), leaf.only)

pub no_leaf-token : {L : Type 0} (g : Grammar L) (w : List ℕ) → shape g.brackets w ≡ shapes.Item → ¬ IsLeafWord g w → IsOnlyToken g w Unknown
no_leaf-token g w h none = unknown-item g w h (λ a e leaf. none (a, e, leaf))

-- one more word with its token
pub tokens-more : {J K L : Type 0} (g : Grammar L) (kind : J → Opener (List ℕ)) (said : K → L) (ws : List Word) (i : ℕ) (w : Word) (ts : List (Token J K)) (t : Token J K) → i < length ws → AreOnlyTokens g (texts (map spot (take i ws))) (map (token_map kind said) ts) → IsOnlyToken g (get_or ws i w).text.now (token_map kind said t) → AreOnlyTokens g (texts (map spot (take (i + 1) ws))) (map (token_map kind said) (ts ++ t ∷ []))
tokens-more g kind said ws i w ts t within h k =
    let P : List (Token (Opener (List ℕ)) _) → Type 0 = λ us. AreOnlyTokens g (texts (map spot (take (i + 1) ws))) us in
    subst P (sym (map-append (token_map kind said) ts (t ∷ []))) (EachWord-more (IsOnlyToken g) ws i w (map (token_map kind said) ts) (token_map kind said t) within h k)

module _ {L : Type 0} (g : Grammar L) (barred : L → Bool) (text : List ℕ) where
  pub memory_fault : FirstFault g barred text faults.Memory
  memory_fault = record { of_words = faults.Memory; first = memory_word_fault g barred (words_of text); here = refl }

  not_memory : (a : GroupFault) (f : FirstFault g barred text a) → ¬ IsMemory a → f.of_words ≢ faults.Memory
  not_memory a f h e = h (f.here ∙ ap (placed (words 0 text)) e)

  -- one fault fits a text
  pub once : OneMark g barred → (a b : GroupFault) → FirstFault g barred text a → FirstFault g barred text b → ¬ IsMemory a → ¬ IsMemory b → a ≡ b
  once mark a b f f' h h' =
      let same = one_word_fault g barred mark (words_of text) f.of_words f'.of_words f.first f'.first (not_memory a f h) (not_memory b f' h') in
      f.here ∙ ap (placed (words 0 text)) same ∙ sym f'.here

  -- and none one that writes trees
  pub none : OneMark g barred → (a : GroupFault) → WritesSome g barred text → FirstFault g barred text a → IsMemory a
  none mark a x f = f.here ∙ ap (placed (words 0 text)) (no_word_fault g barred mark (words_of text) f.of_words (x.0, x.1.0, x.1.1) f.first)

  -- what is read from the tokens of the text's words
  module _ (ws : List Spot) (ts : List (Token (Opener (List ℕ)) L)) (is_words : ws ≡ words 0 text) (are : AreOnlyTokens g (texts ws) ts) where
    of_text : AreOnlyTokens g (words_of text) ts
    of_text = let P : List Spot → Type 0 = λ us. AreOnlyTokens g (texts us) ts in subst P is_words are

    pub read_found : (out : List (Tree (Opener (List ℕ)) L)) → read is_any_of barred ts 0 None [] [] ≡ Ok out → Writes g barred text (trees_of out)
    read_found out r =
        let found = read-in_form g barred (words_of text) ts out (words-are_words 0 text) (only_tokens g (words_of text) ts of_text) r in
        (found.1, found.0)

    read_only : (x : Trees (Opener (List ℕ)) L) → Writes g barred text x → read is_any_of barred ts 0 None [] [] ≡ Ok (list_of x)
    read_only x writes = in_form-read g barred (words_of text) ts x of_text writes.0 writes.1

    -- what is read where trees in form are written are these trees
    pub only_trees : (out : List (Tree (Opener (List ℕ)) L)) (x : Trees (Opener (List ℕ)) L) → read is_any_of barred ts 0 None [] [] ≡ Ok out → Writes g barred text x → trees_of out ≡ x
    only_trees out x r writes = ap trees_of (of_ok _ out (list_of x) r (read_only x writes)) ∙ trees_of-list_of x

    no_fault : (f : GroupFault) (x : Trees (Opener (List ℕ)) L) → Writes g barred text x → read is_any_of barred ts 0 None [] [] ≡ Err f → ⊥
    no_fault f x writes r = both _ f (list_of x) r (read_only x writes)

    -- only memory can be wanting there
    pub only_memory : (us : List Spot) (f : GroupFault) (x : Trees (Opener (List ℕ)) L) → (f ≢ faults.Memory → read is_any_of barred ts 0 None [] [] ≡ Err f) → Writes g barred text x → IsMemory (placed us f)
    only_memory us (faults.Leaf at) x r writes = absurd (no_fault _ x writes (r (λ e. cc)))
    only_memory us (faults.Open at) x r writes = absurd (no_fault _ x writes (r (λ e. cc)))
    only_memory us (faults.Close at) x r writes = absurd (no_fault _ x writes (r (λ e. cc)))
    only_memory us (faults.NoSpace at) x r writes = absurd (no_fault _ x writes (r (λ e. cc)))
    only_memory us (faults.Barred at) x r writes = absurd (no_fault _ x writes (r (λ e. cc)))
    only_memory us faults.Depth x r writes = absurd (no_fault _ x writes (r (λ e. cc)))
    only_memory us faults.Memory x r writes = refl

    -- the reading stops with the first fault
    pub first_fault : (us : List Spot) (f : GroupFault) → us ≡ words 0 text → (f ≢ faults.Memory → read is_any_of barred ts 0 None [] [] ≡ Err f) → FirstFault g barred text (placed us f)
    first_fault us f e r =
        record {
          of_words = f;
          first = first_word_fault g barred (words_of text) ts f (words-are_words 0 text) of_text r;
          here = ap (λ vs. placed vs f) e;
        }
