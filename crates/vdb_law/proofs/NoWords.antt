-- A text without words writes no trees.
use Rattle.std.proofs.Common.{◌≡◌, ℕ, List, [], ◌∷◌, Option, Some, None, map, refl}
use Rattle.dep_group.specs.Tokens.{Grammar, token_text, tree_words}
use Rattle.dep_group.specs.Trees.{Tree, Trees, group, leaf, no_trees, tree}
use Rattle.dep_group.specs.Reading.{all_tokens, tokens}
use Rattle.dep_group.specs.declared.token.Opener.{Opener}
use Rattle.dep_group.specs.declared.token.Token.{Token}

module _ {L : Type 0} (g : Grammar L) where
  some_word : (t : Tree (Opener (List ℕ)) L) (rest : List (Token (Opener (List ℕ)) L)) → map (token_text g) (tokens t rest) ≡ [] → ⊥
  some_word (leaf a) rest none = cc none
  some_word (group None ts) rest none = cc none
  some_word (group (Some opener) ts) rest none = cc none

  pub no_words : (ts : Trees (Opener (List ℕ)) L) → tree_words g ts ≡ [] → ts ≡ no_trees
  no_words no_trees none = refl
  no_words (tree t ts) none = absurd (some_word t (all_tokens ts []) none)
