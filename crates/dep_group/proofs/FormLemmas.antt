-- Trees of leaves and openers of the grammar are in form, where each of these is a word of its shape.
use Rattle.std.specs.Prelude.{map, ◌&&◌, Option, Some, None}
use Rattle.std.specs.List.{list_all, AllByRecursion}
use Rattle.std.proofs.Common.{◌≡◌, ◌∙◌, ℕ, ◌≤◌, Bool, true, false, List, [], ◌∷◌, refl, ap}
use Rattle.dep_group.specs.declared.shape.Shape.TheVariants as shapes
use Rattle.dep_group.specs.declared.token.Opener.{Opener}
use Rattle.dep_group.specs.declared.token.Opener.TheVariants.{AnyOf, ExactlyOne, AtMostOne, When}
use Rattle.dep_group.specs.declared.token.Token.{Token}
use Rattle.dep_group.specs.declared.token.Token.TheVariants.{Leaf, Begins, Opens, Closes, Glued, Unknown}
use Rattle.dep_group.specs.Reading.{opening, tokens, all_tokens}
use Rattle.dep_group.specs.Shapes.{shape, condition}
use Rattle.dep_group.specs.Tokens.{opener_text, opener_shape, Grammar, IsFlag, IsOpener, IsOpening, IsMadeOf, AreMadeOf, token_text, IsToken, AreTokens, tree_words, IsInForm}
use Rattle.dep_group.specs.Trees.{Tree, Trees, leaf, group, no_trees, tree, all_depth, all_free, is_any_of}
use Rattle.dep_group.specs.Words.{is_word}

-- each leaf and each condition of the grammar is one word, of the shape that it has to have
pub record IsWritten {L : Type 0} (g : Grammar L) : Type 0 where
  pub leaf_shape : (a : L) → g.IsLeaf a → shape g.brackets (g.spell a) ≡ shapes.Item
  pub leaf_word : (a : L) → g.IsLeaf a → is_word (g.spell a) ≡ true
  pub condition_shape : (flag : List ℕ) (on : Bool) → IsFlag flag → shape g.brackets (condition flag on) ≡ shapes.When on
  pub condition_word : (flag : List ℕ) (on : Bool) → IsFlag flag → is_word (condition flag on) ≡ true

-- the token is one that trees of the grammar have
abbrev IsMade : {L : Type 0} → Grammar L → Token (Opener (List ℕ)) L → Type 0
IsMade g (Leaf a) = g.IsLeaf a
IsMade g (Begins opener) = IsOpener g opener
IsMade g Opens = Unit {0}
IsMade g Closes = Unit {0}
IsMade g Glued = ⊥
IsMade g Unknown = ⊥

-- the same, where tokens that no tree has pass
abbrev IsPart : {L : Type 0} → Grammar L → Token (Opener (List ℕ)) L → Type 0
IsPart g (Leaf a) = g.IsLeaf a
IsPart g (Begins opener) = IsOpener g opener
IsPart g Opens = Unit {0}
IsPart g Closes = Unit {0}
IsPart g Glued = Unit {0}
IsPart g Unknown = Unit {0}

abbrev AreParts : {L : Type 0} → Grammar L → List (Token (Opener (List ℕ)) L) → Type 0
AreParts g ts = AllByRecursion (IsPart g) ts

abbrev AreMade : {L : Type 0} → Grammar L → List (Token (Opener (List ℕ)) L) → Type 0
AreMade g ts = AllByRecursion (IsMade g) ts

made-opening : {L : Type 0} (g : Grammar L) (o : Option (Opener (List ℕ))) (rest : List (Token (Opener (List ℕ)) L)) → IsOpening g o → AreMade g rest → AreMade g (opening o rest)
made-opening g None rest h k = (tt, k)
made-opening g (Some o) rest h k = (h, (tt, k))

mutual
  made-tokens : {L : Type 0} (g : Grammar L) (t : Tree (Opener (List ℕ)) L) (rest : List (Token (Opener (List ℕ)) L)) → IsMadeOf g t → AreMade g rest → AreMade g (tokens t rest)
  made-tokens g (leaf a) rest h k = (h, k)
  made-tokens g (group o ts) rest h k = made-opening g o (all_tokens ts (Closes ∷ rest)) h.0 (made-all_tokens g ts (Closes ∷ rest) h.1 (tt, k))

  made-all_tokens : {L : Type 0} (g : Grammar L) (ts : Trees (Opener (List ℕ)) L) (rest : List (Token (Opener (List ℕ)) L)) → AreMadeOf g ts → AreMade g rest → AreMade g (all_tokens ts rest)
  made-all_tokens g no_trees rest h k = k
  made-all_tokens g (tree t ts) rest h k = made-tokens g t (all_tokens ts rest) h.0 (made-all_tokens g ts rest h.1 k)

any_of-shape : (brackets : Bool) → shape brackets (opener_text AnyOf) ≡ shapes.AnyOf
any_of-shape true = refl
any_of-shape false = refl

exactly_one-shape : (brackets : Bool) → shape brackets (opener_text ExactlyOne) ≡ shapes.ExactlyOne
exactly_one-shape true = refl
exactly_one-shape false = refl

at_most_one-shape : (brackets : Bool) → shape brackets (opener_text AtMostOne) ≡ shapes.AtMostOne
at_most_one-shape true = refl
at_most_one-shape false = refl

made_opener : {L : Type 0} (g : Grammar L) → IsWritten g → (o : Opener (List ℕ)) → IsOpener g o → (shape g.brackets (opener_text o) ≡ opener_shape o) × (is_word (opener_text o) ≡ true)
made_opener g w AnyOf h = (any_of-shape g.brackets, refl)
made_opener g w ExactlyOne h = (exactly_one-shape g.brackets, refl)
made_opener g w AtMostOne h = (at_most_one-shape g.brackets, refl)
made_opener g w (When flag on) h = (w.condition_shape flag on h, w.condition_word flag on h)

made_token : {L : Type 0} (g : Grammar L) → IsWritten g → (t : Token (Opener (List ℕ)) L) → IsMade g t → IsToken g (token_text g t) t × (is_word (token_text g t) ≡ true)
made_token g w (Leaf a) h = ((refl, h, w.leaf_shape a h), w.leaf_word a h)
made_token g w (Begins o) h = let o' = made_opener g w o h in ((refl, h, o'.0), o'.1)
made_token g w Opens h = (refl, refl)
made_token g w Closes h = (refl, refl)
made_token g w Glued h = absurd h
made_token g w Unknown h = absurd h

made : {L : Type 0} (g : Grammar L) → IsWritten g → (ts : List (Token (Opener (List ℕ)) L)) → AreMade g ts → AreTokens g (map (token_text g) ts) ts × (list_all is_word (map (token_text g) ts) ≡ true)
made g w [] h = (tt, refl)
made g w (t ∷ ts) h =
    let one = made_token g w t h.0 in
    let others = made g w ts h.1 in
    ((one.0, others.0), ap (λ b. b && list_all is_word (map (token_text g) ts)) one.1 ∙ others.1)

-- trees of the grammar that are low enough, with no barred leaf in an any-of group, are in form
pub in_form : {L : Type 0} (g : Grammar L) (barred : L → Bool) → IsWritten g → (x : Trees (Opener (List ℕ)) L) → AreMadeOf g x → all_depth x ≤ 64 → all_free is_any_of barred false x ≡ true → IsInForm g barred x
in_form g barred w x h low free =
    let m = made g w (all_tokens x []) (made-all_tokens g x [] h tt) in
    record { spelled = m.0; words = m.1; low = low; free = free }

token_made : {L : Type 0} (g : Grammar L) (w : List ℕ) (t : Token (Opener (List ℕ)) L) → IsToken g w t → IsPart g t
token_made g w (Leaf a) h = h.1
token_made g w (Begins o) h = h.1
token_made g w Opens h = tt
token_made g w Closes h = tt
token_made g w Glued h = tt
token_made g w Unknown h = tt

tokens_made : {L : Type 0} (g : Grammar L) (ws : List (List ℕ)) (ts : List (Token (Opener (List ℕ)) L)) → AreTokens g ws ts → AreParts g ts
tokens_made g [] [] h = tt
tokens_made g [] (t ∷ ts) h = absurd h
tokens_made g (w ∷ ws) [] h = absurd h
tokens_made g (w ∷ ws) (t ∷ ts) h = (token_made g w t h.0, tokens_made g ws ts h.1)

opening-parts : {L : Type 0} (g : Grammar L) (o : Option (Opener (List ℕ))) (rest : List (Token (Opener (List ℕ)) L)) → AreParts g (opening o rest) → IsOpening g o × AreParts g rest
opening-parts g None rest h = (tt, h.1)
opening-parts g (Some o) rest h = (h.0, h.1.1)

mutual
  tokens-parts : {L : Type 0} (g : Grammar L) (t : Tree (Opener (List ℕ)) L) (rest : List (Token (Opener (List ℕ)) L)) → AreParts g (tokens t rest) → IsMadeOf g t × AreParts g rest
  tokens-parts g (leaf a) rest h = (h.0, h.1)
  tokens-parts g (group o ts) rest h =
      let first = opening-parts g o (all_tokens ts (Closes ∷ rest)) h in
      let members = all_tokens-parts g ts (Closes ∷ rest) first.1 in
      ((first.0, members.0), members.1.1)

  all_tokens-parts : {L : Type 0} (g : Grammar L) (ts : Trees (Opener (List ℕ)) L) (rest : List (Token (Opener (List ℕ)) L)) → AreParts g (all_tokens ts rest) → AreMadeOf g ts × AreParts g rest
  all_tokens-parts g no_trees rest h = (tt, h)
  all_tokens-parts g (tree t ts) rest h =
      let first = tokens-parts g t (all_tokens ts rest) h in
      let others = all_tokens-parts g ts rest first.1 in
      ((first.0, others.0), others.1)

-- trees in form are made of the leaves and openers of the grammar
pub in_form-made : {L : Type 0} (g : Grammar L) (barred : L → Bool) (x : Trees (Opener (List ℕ)) L) → IsInForm g barred x → AreMadeOf g x
in_form-made g barred x form = let parts = all_tokens-parts g x [] (tokens_made g (tree_words g x) (all_tokens x []) form.spelled) in parts.0
