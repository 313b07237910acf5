-- The text of trees, token by token.
use Rattle.std.specs.Prelude.{◌≡◌, ℕ, List, ◌∷◌, map}
use Rattle.dep_group.specs.declared.token.Opener.{Opener}
use Rattle.dep_group.specs.declared.token.Token.{Token}
use Rattle.dep_group.specs.declared.token.Token.TheVariants.{Closes, Opens}
use Rattle.dep_group.specs.Reading.{all_tokens}
use Rattle.dep_group.specs.Tokens.{Grammar, token_text}
use Rattle.dep_group.specs.Trees.{Trees}
use Rattle.dep_group.specs.Words.{spaced_after}

-- the tokens of words of a grammar with these leaves
abbrev pub TokenList : Type 0 → Type 0
TokenList L = List (Token (Opener (List ℕ)) L)

-- the text and then the words of the tokens
abbrev pub written : {L : Type 0} → Grammar L → List ℕ → TokenList L → List ℕ
written g text tokens = spaced_after text (map (token_text g) tokens)

-- the words of these tokens, which stand before those that follow, have been added to the text
abbrev pub Adds : {L : Type 0} → Grammar L → List ℕ → List ℕ → (TokenList L → TokenList L) → Type 0
Adds g old new printed = (rest : _) → written g new rest ≡ written g old (printed rest)

-- the tokens of a group of these trees, behind its opener
abbrev pub group_tokens : {L : Type 0} → Trees (Opener (List ℕ)) L → TokenList L → TokenList L
group_tokens x rest = Opens ∷ all_tokens x (Closes ∷ rest)
