-- A word is read as one token, and trees in form are what their words are read as.
use Rattle.std.specs.Prelude.{map, if◌then◌else◌, Option, Some, None, Ok}
use Rattle.std.specs.List.{list_all}
use Rattle.std.proofs.Common.{◌≡◌, ℕ, zero, suc, ◌+◌, ◌<◌, length, take, get_or, Bool, true, false, List, [], ◌∷◌, ◌++◌, refl, ap, sym, ◌∙◌, subst, arith}
use Rattle.std.proofs.lemmas.List.{append_cancel_right}
use Rattle.std.proofs.lemmas.Slice.Eq.{bytes_eq-Decides}
use Rattle.std.proofs.lemmas.Bool.{and_parts}
use Rattle.basics.proofs.Lists.{tails}
use Rattle.dep_group.specs.declared.shape.Shape.{Shape}
use Rattle.dep_group.specs.declared.shape.Shape.TheVariants as shapes
use Rattle.dep_group.specs.declared.token.Opener.{Opener}
use Rattle.dep_group.specs.declared.token.Opener.TheVariants.{AnyOf, ExactlyOne, AtMostOne, When}
use Rattle.dep_group.specs.declared.token.Token.{Token}
use Rattle.dep_group.specs.declared.token.Token.TheVariants.{Leaf, Begins, Opens, Closes, Glued, Unknown}
use Rattle.dep_group.specs.Words.{is_word, texts}
use Rattle.dep_group.specs.Views.{spot}
use Rattle.dep_group.specs.declared.word.Word.{Word}
use Rattle.dep_group.specs.Shapes.{shape, condition, question_mark, open_parenthesis, close_parenthesis}
use Rattle.dep_group.specs.Trees.{Tree, Trees, leaf, group, no_trees, tree, trees_of, is_any_of}
use Rattle.dep_group.specs.Reading.{opening, tokens, all_tokens, read, list_of}
use Rattle.dep_group.specs.Tokens.{opener_text, opener_shape, Grammar, IsFlag, IsOpener, token_text, Spells, IsToken, IsOnlyToken, EachWord, AreTokens, AreOnlyTokens, tree_words, IsInForm}
use Rattle.dep_group.proofs.ReadingLemmas.{read-ok, read-sound, read-printed}

-- two shapes with different numbers are different
abbrev rank : Shape → ℕ
rank shapes.Opens = 0
rank shapes.Closes = 1
rank shapes.Glued = 2
rank shapes.Item = 3
rank shapes.AnyOf = 4
rank shapes.ExactlyOne = 4
rank shapes.AtMostOne = 4
rank (shapes.When on) = 4

opener_rank : (o : Opener (List ℕ)) → rank (opener_shape o) ≡ 4
opener_rank AnyOf = refl
opener_rank ExactlyOne = refl
opener_rank AtMostOne = refl
opener_rank (When flag on) = refl

apart : (s t u : Shape) → s ≡ t → s ≡ u → rank t ≡ rank u
apart s t u h k = ap rank (sym h ∙ k)

conditions_same : (f f' : List ℕ) (on : Bool) → condition f on ≡ condition f' on → f ≡ f'
conditions_same f f' true h = append_cancel_right f f' (question_mark ∷ []) h
conditions_same f f' false h = append_cancel_right f f' (question_mark ∷ []) (tails _ _ _ _ h)

whens_same : (f f' : List ℕ) (on on' : Bool) → condition f on ≡ condition f' on' → shapes.When on ≡ shapes.When on' → When f on ≡ When f' on'
whens_same f f' on on' h k = go on on' (of_when on on' k) h
  where
    of_when : (on on' : Bool) → shapes.When on ≡ shapes.When on' → on ≡ on'
    of_when on on' e = cc

    go : (on on' : Bool) → on ≡ on' → condition f on ≡ condition f' on' → When f on ≡ When f' on'
    go true true e h = ap (λ g. When g true) (conditions_same f f' true h)
    go false false e h = ap (λ g. When g false) (conditions_same f f' false h)
    go true false e h = absurd (cc)
    go false true e h = absurd (cc)

openers_same : (o o' : Opener (List ℕ)) → opener_text o ≡ opener_text o' → opener_shape o ≡ opener_shape o' → o ≡ o'
openers_same AnyOf AnyOf h k = refl
openers_same AnyOf ExactlyOne h k = absurd (cc)
openers_same AnyOf AtMostOne h k = absurd (cc)
openers_same AnyOf (When f on) h k = absurd (cc)
openers_same ExactlyOne AnyOf h k = absurd (cc)
openers_same ExactlyOne ExactlyOne h k = refl
openers_same ExactlyOne AtMostOne h k = absurd (cc)
openers_same ExactlyOne (When f on) h k = absurd (cc)
openers_same AtMostOne AnyOf h k = absurd (cc)
openers_same AtMostOne ExactlyOne h k = absurd (cc)
openers_same AtMostOne AtMostOne h k = refl
openers_same AtMostOne (When f on) h k = absurd (cc)
openers_same (When f on) AnyOf h k = absurd (cc)
openers_same (When f on) ExactlyOne h k = absurd (cc)
openers_same (When f on) AtMostOne h k = absurd (cc)
openers_same (When f on) (When f' on') h k = whens_same f f' on on' h k

-- no two leaves of the grammar have one text
abbrev pub OneSpelling : {L : Type 0} → Grammar L → Type 0
OneSpelling g = (a b : _) → g.IsLeaf a → g.IsLeaf b → g.spell a ≡ g.spell b → a ≡ b

-- no other leaf of the grammar is spelled as the word of this token
abbrev IsSole : {L : Type 0} → Grammar L → List ℕ → Token (Opener (List ℕ)) L → Type 0
IsSole g w (Leaf a) = (b : _) → g.IsLeaf b → w ≡ g.spell b → a ≡ b
IsSole g w (Begins o) = Unit {0}
IsSole g w Opens = Unit {0}
IsSole g w Closes = Unit {0}
IsSole g w Glued = Unit {0}
IsSole g w Unknown = Unit {0}

only_is : {L : Type 0} (g : Grammar L) (w : List ℕ) (t : Token (Opener (List ℕ)) L) → IsOnlyToken g w t → IsToken g w t
only_is g w (Leaf a) h = h.0
only_is g w (Begins o) h = h
only_is g w Opens h = h
only_is g w Closes h = h
only_is g w Glued h = h
only_is g w Unknown h = h

only_sole : {L : Type 0} (g : Grammar L) (w : List ℕ) (t : Token (Opener (List ℕ)) L) → IsOnlyToken g w t → IsSole g w t
only_sole g w (Leaf a) h = h.1
only_sole g w (Begins o) h = tt
only_sole g w Opens h = tt
only_sole g w Closes h = tt
only_sole g w Glued h = tt
only_sole g w Unknown h = tt

pub one_only : {L : Type 0} (g : Grammar L) → OneSpelling g → (w : List ℕ) (t : Token (Opener (List ℕ)) L) → IsToken g w t → IsOnlyToken g w t
one_only g one w (Leaf a) h = (h, λ b is e. one a b h.1 is (sym h.0 ∙ e))
one_only g one w (Begins o) h = h
one_only g one w Opens h = h
one_only g one w Closes h = h
one_only g one w Glued h = h
one_only g one w Unknown h = h

pub only_tokens : {L : Type 0} (g : Grammar L) (ws : List (List ℕ)) (ts : List (Token (Opener (List ℕ)) L)) → AreOnlyTokens g ws ts → AreTokens g ws ts
only_tokens g [] [] h = tt
only_tokens g [] (t ∷ ts) h = absurd h
only_tokens g (w ∷ ws) [] h = absurd h
only_tokens g (w ∷ ws) (t ∷ ts) h = (only_is g w t h.0, only_tokens g ws ts h.1)

-- where no two leaves have one text, what words are read as are their only tokens
pub all_only : {L : Type 0} (g : Grammar L) → OneSpelling g → (ws : List (List ℕ)) (ts : List (Token (Opener (List ℕ)) L)) → AreTokens g ws ts → AreOnlyTokens g ws ts
all_only g one [] [] h = tt
all_only g one [] (t ∷ ts) h = absurd h
all_only g one (w ∷ ws) [] h = absurd h
all_only g one (w ∷ ws) (t ∷ ts) h = (one_only g one w t h.0, all_only g one ws ts h.1)

spelled_rank : {L : Type 0} (g : Grammar L) (w : List ℕ) (t : Token (Opener (List ℕ)) L) → Spells g w t → shape g.brackets w ≡ shapes.Glued → ⊥
spelled_rank g w (Leaf a) s e = absurd (omega (arith, apart (shape g.brackets w) shapes.Item shapes.Glued s.2 e))
spelled_rank g w (Begins o) s e = absurd (omega (arith, apart (shape g.brackets w) (opener_shape o) shapes.Glued s.2 e, opener_rank o))
spelled_rank g w Opens s e = absurd (omega (arith, apart (shape g.brackets w) shapes.Opens shapes.Glued s e))
spelled_rank g w Closes s e = absurd (omega (arith, apart (shape g.brackets w) shapes.Closes shapes.Glued s e))
spelled_rank g w Glued s e = s
spelled_rank g w Unknown s e = s

spelled_same : {L : Type 0} (g : Grammar L) (w : List ℕ) (t u : Token (Opener (List ℕ)) L) → IsSole g w t → Spells g w t → Spells g w u → t ≡ u
spelled_same g w (Leaf a) (Leaf b) sole s r = ap Leaf (sole b r.1 r.0)
spelled_same g w (Leaf a) (Begins o) sole s r = absurd (omega (arith, apart (shape g.brackets w) shapes.Item (opener_shape o) s.2 r.2, opener_rank o))
spelled_same g w (Leaf a) Opens sole s r = absurd (omega (arith, apart (shape g.brackets w) shapes.Item shapes.Opens s.2 r))
spelled_same g w (Leaf a) Closes sole s r = absurd (omega (arith, apart (shape g.brackets w) shapes.Item shapes.Closes s.2 r))
spelled_same g w (Leaf a) Glued sole s r = absurd r
spelled_same g w (Leaf a) Unknown sole s r = absurd r
spelled_same g w (Begins o) (Leaf b) sole s r = absurd (omega (arith, apart (shape g.brackets w) (opener_shape o) shapes.Item s.2 r.2, opener_rank o))
spelled_same g w (Begins o) (Begins p) sole s r = ap Begins (openers_same o p (sym s.0 ∙ r.0) (sym s.2 ∙ r.2))
spelled_same g w (Begins o) Opens sole s r = absurd (omega (arith, apart (shape g.brackets w) (opener_shape o) shapes.Opens s.2 r, opener_rank o))
spelled_same g w (Begins o) Closes sole s r = absurd (omega (arith, apart (shape g.brackets w) (opener_shape o) shapes.Closes s.2 r, opener_rank o))
spelled_same g w (Begins o) Glued sole s r = absurd r
spelled_same g w (Begins o) Unknown sole s r = absurd r
spelled_same g w Opens (Leaf b) sole s r = absurd (omega (arith, apart (shape g.brackets w) shapes.Opens shapes.Item s r.2))
spelled_same g w Opens (Begins o) sole s r = absurd (omega (arith, apart (shape g.brackets w) shapes.Opens (opener_shape o) s r.2, opener_rank o))
spelled_same g w Opens Opens sole s r = refl
spelled_same g w Opens Closes sole s r = absurd (omega (arith, apart (shape g.brackets w) shapes.Opens shapes.Closes s r))
spelled_same g w Opens Glued sole s r = absurd r
spelled_same g w Opens Unknown sole s r = absurd r
spelled_same g w Closes (Leaf b) sole s r = absurd (omega (arith, apart (shape g.brackets w) shapes.Closes shapes.Item s r.2))
spelled_same g w Closes (Begins o) sole s r = absurd (omega (arith, apart (shape g.brackets w) shapes.Closes (opener_shape o) s r.2, opener_rank o))
spelled_same g w Closes Opens sole s r = absurd (omega (arith, apart (shape g.brackets w) shapes.Closes shapes.Opens s r))
spelled_same g w Closes Closes sole s r = refl
spelled_same g w Closes Glued sole s r = absurd r
spelled_same g w Closes Unknown sole s r = absurd r
spelled_same g w Glued u sole s r = absurd s
spelled_same g w Unknown u sole s r = absurd s

-- what is known of a token that a word is read as
data Read {L : Type 0} (g : Grammar L) (w : List ℕ) (t : Token (Opener (List ℕ)) L) : Type 0 where
  good : Spells g w t → Read g w t
  glued : t ≡ Glued → shape g.brackets w ≡ shapes.Glued → Read g w t
  unknown : t ≡ Unknown → (shape g.brackets w ≡ shapes.Glued → ⊥) → ((u : Token (Opener (List ℕ)) L) → Spells g w u → ⊥) → Read g w t

read_as : {L : Type 0} (g : Grammar L) (w : List ℕ) (t : Token (Opener (List ℕ)) L) → IsToken g w t → Read g w t
read_as g w (Leaf a) h = good h
read_as g w (Begins o) h = good h
read_as g w Opens h = good h
read_as g w Closes h = good h
read_as g w Glued h = glued refl h
read_as g w Unknown h = unknown refl h.0 h.1

reads_same : {L : Type 0} (g : Grammar L) (w : List ℕ) (t u : Token (Opener (List ℕ)) L) → IsSole g w t → Read g w t → Read g w u → t ≡ u
reads_same g w t u sole (good s) (good r) = spelled_same g w t u sole s r
reads_same g w t u sole (good s) (glued e k) = absurd (spelled_rank g w t s k)
reads_same g w t u sole (good s) (unknown e k n) = absurd (n t s)
reads_same g w t u sole (glued e k) (good r) = absurd (spelled_rank g w u r k)
reads_same g w t u sole (glued e k) (glued f l) = e ∙ sym f
reads_same g w t u sole (glued e k) (unknown f l n) = absurd (l k)
reads_same g w t u sole (unknown e k n) (good r) = absurd (n u r)
reads_same g w t u sole (unknown e k n) (glued f l) = absurd (k l)
reads_same g w t u sole (unknown e k n) (unknown f l m) = e ∙ sym f

-- a word is read as one token
pub token_same : {L : Type 0} (g : Grammar L) (w : List ℕ) (t u : Token (Opener (List ℕ)) L) → IsOnlyToken g w t → IsToken g w u → t ≡ u
token_same g w t u h k = reads_same g w t u (only_sole g w t h) (read_as g w t (only_is g w t h)) (read_as g w u k)

-- words are read as one list of tokens
pub tokens_same : {L : Type 0} (g : Grammar L) (ws : List (List ℕ)) (ts us : List (Token (Opener (List ℕ)) L)) → AreOnlyTokens g ws ts → AreTokens g ws us → ts ≡ us
tokens_same g [] [] [] h k = refl
tokens_same g [] [] (u ∷ us) h k = absurd k
tokens_same g [] (t ∷ ts) us h k = absurd h
tokens_same g (w ∷ ws) [] us h k = absurd h
tokens_same g (w ∷ ws) (t ∷ ts) [] h k = absurd k
tokens_same g (w ∷ ws) (t ∷ ts) (u ∷ us) h k =
    ap (λ x. x ∷ ts) (token_same g w t u h.0 k.0) ∙ ap (λ xs. u ∷ xs) (tokens_same g ws ts us h.1 k.1)

-- the token is no fault
abbrev is_good : {L : Type 0} → Token (Opener (List ℕ)) L → Bool
is_good (Leaf a) = true
is_good (Begins o) = true
is_good Opens = true
is_good Closes = true
is_good Glued = false
is_good Unknown = false

good-opening : {L : Type 0} (o : Option (Opener (List ℕ))) (rest : List (Token (Opener (List ℕ)) L)) → list_all is_good (opening o rest) ≡ list_all is_good rest
good-opening None rest = refl
good-opening (Some o) rest = refl

mutual
  good-tokens : {L : Type 0} (t : Tree (Opener (List ℕ)) L) (rest : List (Token (Opener (List ℕ)) L)) → list_all is_good (tokens t rest) ≡ list_all is_good rest
  good-tokens (leaf a) rest = refl
  good-tokens (group o ts) rest = good-opening o (all_tokens ts (Closes ∷ rest)) ∙ good-all_tokens ts (Closes ∷ rest)

  good-all_tokens : {L : Type 0} (ts : Trees (Opener (List ℕ)) L) (rest : List (Token (Opener (List ℕ)) L)) → list_all is_good (all_tokens ts rest) ≡ list_all is_good rest
  good-all_tokens no_trees rest = refl
  good-all_tokens (tree t ts) rest = good-tokens t (all_tokens ts rest) ∙ good-all_tokens ts rest

opens_chosen : (a b c d e f g n : Bool) → (if a then shapes.Opens else if b then shapes.Closes else if c then shapes.Glued else if d then shapes.AnyOf else if e then shapes.ExactlyOne else if f then shapes.AtMostOne else if g then shapes.When n else shapes.Item) ≡ shapes.Opens → a ≡ true
opens_chosen true b c d e f g n h = refl
opens_chosen false true c d e f g n h = absurd (cc)
opens_chosen false false true d e f g n h = absurd (cc)
opens_chosen false false false true e f g n h = absurd (cc)
opens_chosen false false false false true f g n h = absurd (cc)
opens_chosen false false false false false true g n h = absurd (cc)
opens_chosen false false false false false false true n h = absurd (cc)
opens_chosen false false false false false false false n h = absurd (cc)

closes_chosen : (a b c d e f g n : Bool) → (if a then shapes.Opens else if b then shapes.Closes else if c then shapes.Glued else if d then shapes.AnyOf else if e then shapes.ExactlyOne else if f then shapes.AtMostOne else if g then shapes.When n else shapes.Item) ≡ shapes.Closes → b ≡ true
closes_chosen true b c d e f g n h = absurd (cc)
closes_chosen false true c d e f g n h = refl
closes_chosen false false true d e f g n h = absurd (cc)
closes_chosen false false false true e f g n h = absurd (cc)
closes_chosen false false false false true f g n h = absurd (cc)
closes_chosen false false false false false true g n h = absurd (cc)
closes_chosen false false false false false false true n h = absurd (cc)
closes_chosen false false false false false false false n h = absurd (cc)

pub shape-opens : (brackets : Bool) (w : List ℕ) → shape brackets w ≡ shapes.Opens → w ≡ open_parenthesis ∷ []
shape-opens brackets w h = let d = bytes_eq-Decides w (open_parenthesis ∷ []) in d.0 (opens_chosen _ _ _ _ _ _ _ _ h)

pub shape-closes : (brackets : Bool) (w : List ℕ) → shape brackets w ≡ shapes.Closes → w ≡ close_parenthesis ∷ []
shape-closes brackets w h = let d = bytes_eq-Decides w (close_parenthesis ∷ []) in d.0 (closes_chosen _ _ _ _ _ _ _ _ h)

spelled_text : {L : Type 0} (g : Grammar L) (w : List ℕ) (t : Token (Opener (List ℕ)) L) → Spells g w t → w ≡ token_text g t
spelled_text g w (Leaf a) s = s.0
spelled_text g w (Begins o) s = s.0
spelled_text g w Opens s = shape-opens g.brackets w s
spelled_text g w Closes s = shape-closes g.brackets w s
spelled_text g w Glued s = absurd s
spelled_text g w Unknown s = absurd s

good_text : {L : Type 0} (g : Grammar L) (w : List ℕ) (t : Token (Opener (List ℕ)) L) → is_good t ≡ true → IsToken g w t → w ≡ token_text g t
good_text g w (Leaf a) e h = spelled_text g w (Leaf a) h
good_text g w (Begins o) e h = spelled_text g w (Begins o) h
good_text g w Opens e h = spelled_text g w Opens h
good_text g w Closes e h = spelled_text g w Closes h
good_text g w Glued e h = absurd (cc)
good_text g w Unknown e h = absurd (cc)

good_texts : {L : Type 0} (g : Grammar L) (ws : List (List ℕ)) (ts : List (Token (Opener (List ℕ)) L)) → list_all is_good ts ≡ true → AreTokens g ws ts → ws ≡ map (token_text g) ts
good_texts g [] [] e h = refl
good_texts g [] (t ∷ ts) e h = absurd h
good_texts g (w ∷ ws) [] e h = absurd h
good_texts g (w ∷ ws) (t ∷ ts) e h =
    ap (λ x. x ∷ ws) (good_text g w t (and_parts (is_good t) (list_all is_good ts) e).0 h.0)
    ∙ ap (λ xs. token_text g t ∷ xs) (good_texts g ws ts (and_parts (is_good t) (list_all is_good ts) e).1 h.1)

-- words that are read as trees are the words of these trees, which are in form
pub read-in_form : {L : Type 0} (g : Grammar L) (barred : L → Bool) (ws : List (List ℕ)) (ts : List (Token (Opener (List ℕ)) L)) (out : List (Tree (Opener (List ℕ)) L)) → list_all is_word ws ≡ true → AreTokens g ws ts → read is_any_of barred ts 0 None [] [] ≡ Ok out → (ws ≡ tree_words g (trees_of out)) × IsInForm g barred (trees_of out)
read-in_form g barred ws ts out proper h e =
    let printed = read-ok is_any_of barred ts out e in
    let k = let P : List _ → Type 0 = λ us. AreTokens g ws us in subst P printed h in
    let same = good_texts g ws (all_tokens (trees_of out) []) (good-all_tokens (trees_of out) []) k in
    let sound = read-sound is_any_of barred ts out e in (
      same,
      record {
        spelled = (let P : List _ → Type 0 = λ vs. AreTokens g vs (all_tokens (trees_of out) []) in subst P same k);
        words = (let P : List _ → Type 0 = λ vs. list_all is_word vs ≡ true in subst P same proper);
        low = sound.0;
        free = sound.1;
      },
    )

-- the words of trees in form are read as these trees, and as nothing else
pub in_form-read : {L : Type 0} (g : Grammar L) (barred : L → Bool) (ws : List (List ℕ)) (ts : List (Token (Opener (List ℕ)) L)) (x : Trees (Opener (List ℕ)) L) → AreOnlyTokens g ws ts → IsInForm g barred x → ws ≡ tree_words g x → read is_any_of barred ts 0 None [] [] ≡ Ok (list_of x)
in_form-read g barred ws ts x h form e =
    let k = let P : List _ → Type 0 = λ vs. AreOnlyTokens g vs ts in subst P e h in
    let same = tokens_same g (tree_words g x) ts (all_tokens x []) k form.spelled in
    ap (λ us. read is_any_of barred us 0 None [] []) same ∙ read-printed is_any_of barred x form.low form.free

any_of_chosen : (a b c d e f g n : Bool) → (if a then shapes.Opens else if b then shapes.Closes else if c then shapes.Glued else if d then shapes.AnyOf else if e then shapes.ExactlyOne else if f then shapes.AtMostOne else if g then shapes.When n else shapes.Item) ≡ shapes.AnyOf → d ≡ true
any_of_chosen true b c d e f g n h = absurd (cc)
any_of_chosen false true c d e f g n h = absurd (cc)
any_of_chosen false false true d e f g n h = absurd (cc)
any_of_chosen false false false true e f g n h = refl
any_of_chosen false false false false true f g n h = absurd (cc)
any_of_chosen false false false false false true g n h = absurd (cc)
any_of_chosen false false false false false false true n h = absurd (cc)
any_of_chosen false false false false false false false n h = absurd (cc)

exactly_one_chosen : (a b c d e f g n : Bool) → (if a then shapes.Opens else if b then shapes.Closes else if c then shapes.Glued else if d then shapes.AnyOf else if e then shapes.ExactlyOne else if f then shapes.AtMostOne else if g then shapes.When n else shapes.Item) ≡ shapes.ExactlyOne → e ≡ true
exactly_one_chosen true b c d e f g n h = absurd (cc)
exactly_one_chosen false true c d e f g n h = absurd (cc)
exactly_one_chosen false false true d e f g n h = absurd (cc)
exactly_one_chosen false false false true e f g n h = absurd (cc)
exactly_one_chosen false false false false true f g n h = refl
exactly_one_chosen false false false false false true g n h = absurd (cc)
exactly_one_chosen false false false false false false true n h = absurd (cc)
exactly_one_chosen false false false false false false false n h = absurd (cc)

at_most_one_chosen : (a b c d e f g n : Bool) → (if a then shapes.Opens else if b then shapes.Closes else if c then shapes.Glued else if d then shapes.AnyOf else if e then shapes.ExactlyOne else if f then shapes.AtMostOne else if g then shapes.When n else shapes.Item) ≡ shapes.AtMostOne → f ≡ true
at_most_one_chosen true b c d e f g n h = absurd (cc)
at_most_one_chosen false true c d e f g n h = absurd (cc)
at_most_one_chosen false false true d e f g n h = absurd (cc)
at_most_one_chosen false false false true e f g n h = absurd (cc)
at_most_one_chosen false false false false true f g n h = absurd (cc)
at_most_one_chosen false false false false false true g n h = refl
at_most_one_chosen false false false false false false true n h = absurd (cc)
at_most_one_chosen false false false false false false false n h = absurd (cc)

pub shape-any_of : (brackets : Bool) (w : List ℕ) → shape brackets w ≡ shapes.AnyOf → w ≡ opener_text AnyOf
shape-any_of brackets w h = let d = bytes_eq-Decides w (opener_text AnyOf) in d.0 (any_of_chosen _ _ _ _ _ _ _ _ h)

pub shape-exactly_one : (brackets : Bool) (w : List ℕ) → shape brackets w ≡ shapes.ExactlyOne → w ≡ opener_text ExactlyOne
shape-exactly_one brackets w h = let d = bytes_eq-Decides w (opener_text ExactlyOne) in d.0 (exactly_one_chosen _ _ _ _ _ _ _ _ h)

pub shape-at_most_one : (brackets : Bool) (w : List ℕ) → shape brackets w ≡ shapes.AtMostOne → w ≡ opener_text AtMostOne
shape-at_most_one brackets w h = let d = bytes_eq-Decides w (opener_text AtMostOne) in d.0 (at_most_one_chosen _ _ _ _ _ _ _ _ h)

-- a word with the shape of a leaf that spells none
pub unknown-item : {L : Type 0} (g : Grammar L) (w : List ℕ) → shape g.brackets w ≡ shapes.Item → ((a : L) → w ≡ g.spell a → g.IsLeaf a → ⊥) → IsToken g w Unknown
unknown-item g w e no_leaf = ((λ k. absurd (omega (arith, apart (shape g.brackets w) shapes.Item shapes.Glued e k))), none)
  where
    none : (t : Token (Opener (List ℕ)) _) → Spells g w t → ⊥
    none (Leaf a) s = no_leaf a s.0 s.1
    none (Begins o) s = absurd (omega (arith, apart (shape g.brackets w) shapes.Item (opener_shape o) e s.2, opener_rank o))
    none Opens s = absurd (omega (arith, apart (shape g.brackets w) shapes.Item shapes.Opens e s))
    none Closes s = absurd (omega (arith, apart (shape g.brackets w) shapes.Item shapes.Closes e s))
    none Glued s = s
    none Unknown s = s

unknown-opener : {L : Type 0} (g : Grammar L) (w : List ℕ) (o : Opener (List ℕ)) → shape g.brackets w ≡ opener_shape o → ((p : Opener (List ℕ)) → w ≡ opener_text p → shape g.brackets w ≡ opener_shape p → IsOpener g p → ⊥) → IsToken g w Unknown
unknown-opener g w o e no_opener = ((λ k. absurd (omega (arith, apart (shape g.brackets w) (opener_shape o) shapes.Glued e k, opener_rank o))), none)
  where
    none : (t : Token (Opener (List ℕ)) _) → Spells g w t → ⊥
    none (Leaf a) s = absurd (omega (arith, apart (shape g.brackets w) (opener_shape o) shapes.Item e s.2, opener_rank o))
    none (Begins p) s = no_opener p s.0 s.2 s.1
    none Opens s = absurd (omega (arith, apart (shape g.brackets w) (opener_shape o) shapes.Opens e s, opener_rank o))
    none Closes s = absurd (omega (arith, apart (shape g.brackets w) (opener_shape o) shapes.Closes e s, opener_rank o))
    none Glued s = s
    none Unknown s = s

-- a condition on what is no flag
pub unknown-when : {L : Type 0} (g : Grammar L) (w flag : List ℕ) (on : Bool) → shape g.brackets w ≡ shapes.When on → w ≡ condition flag on → (IsFlag flag → ⊥) → IsToken g w Unknown
unknown-when g w flag on e text no_flag = unknown-opener g w (When flag on) e none
  where
    same_flag : (p : Opener (List ℕ)) → When flag on ≡ p → IsOpener g p → IsFlag flag
    same_flag p h k = let P : Opener (List ℕ) → Type 0 = λ o. IsOpener g o in subst P (sym h) k

    none : (p : Opener (List ℕ)) → w ≡ opener_text p → shape g.brackets w ≡ opener_shape p → IsOpener g p → ⊥
    none p t s k = no_flag (same_flag p (openers_same (When flag on) p (sym text ∙ t) (sym e ∙ s)) k)

-- an opener that counts its members, where the grammar has none
pub unknown-counts : {L : Type 0} (g : Grammar L) (w : List ℕ) (o : Opener (List ℕ)) → shape g.brackets w ≡ opener_shape o → w ≡ opener_text o → (IsOpener g o → ⊥) → IsToken g w Unknown
unknown-counts g w o e text no_opener = unknown-opener g w o e none
  where
    same_opener : (p : Opener (List ℕ)) → o ≡ p → IsOpener g p → IsOpener g o
    same_opener p h k = let P : Opener (List ℕ) → Type 0 = λ q. IsOpener g q in subst P (sym h) k

    none : (p : Opener (List ℕ)) → w ≡ opener_text p → shape g.brackets w ≡ opener_shape p → IsOpener g p → ⊥
    none p t s k = no_opener (same_opener p (openers_same o p (sym text ∙ t) (sym e ∙ s)) k)

-- one more word with its token
EachWord-push : {L : Type 0} (R : List ℕ → Token (Opener (List ℕ)) L → Type 0) (ws : List (List ℕ)) (ts : List (Token (Opener (List ℕ)) L)) (w : List ℕ) (t : Token (Opener (List ℕ)) L) → EachWord R ws ts → R w t → EachWord R (ws ++ w ∷ []) (ts ++ t ∷ [])
EachWord-push R [] [] w t h k = (k, tt)
EachWord-push R [] (u ∷ ts) w t h k = absurd h
EachWord-push R (v ∷ ws) [] w t h k = absurd h
EachWord-push R (v ∷ ws) (u ∷ ts) w t h k = (h.0, EachWord-push R ws ts w t h.1 k)

-- the words up to one more
pub texts-more : (ws : List Word) (i : ℕ) (w : Word) → i < length ws → texts (map spot (take (i + 1) ws)) ≡ texts (map spot (take i ws)) ++ (get_or ws i w).text.now ∷ []
texts-more [] i w within = absurd (omega arith)
texts-more (v ∷ ws) zero w within = ap (λ us. texts (map spot us)) (let one : take (0 + 1) (v ∷ ws) ≡ v ∷ [] = refl in one)
texts-more (v ∷ ws) (suc i) w within =
    ap (λ n. texts (map spot (take n (v ∷ ws)))) (let same : suc i + 1 ≡ suc (i + 1) = omega arith in same)
    ∙ ap (λ us. v.text.now ∷ us) (texts-more ws i w (omega arith))

pub EachWord-more : {L : Type 0} (R : List ℕ → Token (Opener (List ℕ)) L → Type 0) (ws : List Word) (i : ℕ) (w : Word) (ts : List (Token (Opener (List ℕ)) L)) (t : Token (Opener (List ℕ)) L) → i < length ws → EachWord R (texts (map spot (take i ws))) ts → R (get_or ws i w).text.now t → EachWord R (texts (map spot (take (i + 1) ws))) (ts ++ t ∷ [])
EachWord-more R ws i w ts t within h k =
    let P : List (List ℕ) → Type 0 = λ us. EachWord R us (ts ++ t ∷ []) in
    subst P (sym (texts-more ws i w within)) (EachWord-push R (texts (map spot (take i ws))) ts (get_or ws i w).text.now t h k)
