-- Which token a word is, for leaves and flags of any grammar, and the words of a tree.
use Rattle.std.specs.Prelude.{◌≡◌, ℕ, ◌≤◌, Bool, true, false, List, [], ◌∷◌, map, Option, Some, None, ⊤}
use Rattle.std.specs.List.{list_all}
use Rattle.dep_group.specs.declared.shape.Shape.{Shape}
use Rattle.dep_group.specs.declared.shape.Shape.TheVariants as shapes
use Rattle.dep_group.specs.declared.token.Opener.{Opener}
use Rattle.dep_group.specs.declared.token.Opener.TheVariants.{AnyOf, ExactlyOne, AtMostOne, When}
use Rattle.dep_group.specs.declared.token.Token.{Token}
use Rattle.dep_group.specs.declared.token.Token.TheVariants.{Leaf, Begins, Opens, Closes, Glued, Unknown}
use Rattle.dep_group.specs.Words.{is_word}
use Rattle.pms_names.specs.Names.{IsName}
use Rattle.pms_names.specs.declared.kind.Kind.TheVariants as kinds
use Rattle.dep_group.specs.Shapes.{shape, condition, open_parenthesis, close_parenthesis}
use Rattle.dep_group.specs.Trees.{Tree, Trees, leaf, group, no_trees, tree, all_depth, all_free, is_any_of}
use Rattle.dep_group.specs.Reading.{all_tokens}

-- the word that begins a group
abbrev pub opener_text : Opener (List ℕ) → List ℕ
opener_text AnyOf = 124 ∷ 124 ∷ []
opener_text ExactlyOne = 94 ∷ 94 ∷ []
opener_text AtMostOne = 63 ∷ 63 ∷ []
opener_text (When flag on) = condition flag on

abbrev pub opener_shape : Opener (List ℕ) → Shape
opener_shape AnyOf = shapes.AnyOf
opener_shape ExactlyOne = shapes.ExactlyOne
opener_shape AtMostOne = shapes.AtMostOne
opener_shape (When flag on) = shapes.When on

-- the bytes are the name of a flag
abbrev pub IsFlag : List ℕ → Type 0
IsFlag flag = IsName kinds.Flag flag

-- what a grammar of groups fixes: its leaves, their texts, whether it has groups that count their
-- members, and whether brackets keep the parentheses in them
pub record Grammar (L : Type 0) : Type 1 where
  pub spell : L → List ℕ
  pub IsLeaf : L → Type 0
  pub counts : Bool
  pub brackets : Bool

-- the opener is one of the grammar's
abbrev pub IsOpener : {L : Type 0} → Grammar L → Opener (List ℕ) → Type 0
IsOpener g AnyOf = ⊤
IsOpener g ExactlyOne = g.counts ≡ true
IsOpener g AtMostOne = g.counts ≡ true
IsOpener g (When flag on) = IsFlag flag

-- what an opener asks for is a flag
abbrev pub HasFlagName : Opener (List ℕ) → Type 0
HasFlagName AnyOf = ⊤
HasFlagName ExactlyOne = ⊤
HasFlagName AtMostOne = ⊤
HasFlagName (When flag on) = IsFlag flag

-- the word spells a leaf of the grammar
abbrev pub IsLeafWord : {L : Type 0} → Grammar L → List ℕ → Type 0
IsLeafWord g word = (a : _) × (word ≡ g.spell a) × g.IsLeaf a

-- the word spells this leaf of the grammar, and no other
pub record IsOnlyLeaf {L : Type 0} (g : Grammar L) (word : List ℕ) (a : L) : Type 0 where
  pub spelled : word ≡ g.spell a
  pub is_leaf : g.IsLeaf a
  pub only : (b : L) → g.IsLeaf b → word ≡ g.spell b → a ≡ b

-- the word of a token
abbrev pub token_text : {L : Type 0} → Grammar L → Token (Opener (List ℕ)) L → List ℕ
token_text g (Leaf a) = g.spell a
token_text g (Begins opener) = opener_text opener
token_text g Opens = open_parenthesis ∷ []
token_text g Closes = close_parenthesis ∷ []
token_text g Glued = []
token_text g Unknown = []

-- the word spells the token
abbrev pub Spells : {L : Type 0} → Grammar L → List ℕ → Token (Opener (List ℕ)) L → Type 0
Spells g word (Leaf a) = (word ≡ g.spell a) × g.IsLeaf a × (shape g.brackets word ≡ shapes.Item)
Spells g word (Begins opener) =
    (word ≡ opener_text opener) × IsOpener g opener × (shape g.brackets word ≡ opener_shape opener)
Spells g word Opens = shape g.brackets word ≡ shapes.Opens
Spells g word Closes = shape g.brackets word ≡ shapes.Closes
Spells g word Glued = ⊥
Spells g word Unknown = ⊥

-- the token is what the word is read as
abbrev pub IsToken : {L : Type 0} → Grammar L → List ℕ → Token (Opener (List ℕ)) L → Type 0
IsToken g word (Leaf a) = Spells g word (Leaf a)
IsToken g word (Begins opener) = Spells g word (Begins opener)
IsToken g word Opens = Spells g word Opens
IsToken g word Closes = Spells g word Closes
IsToken g word Glued = shape g.brackets word ≡ shapes.Glued
IsToken g word Unknown = ¬ (shape g.brackets word ≡ shapes.Glued) ×
    ((token : Token (Opener (List ℕ)) _) → ¬ Spells g word token)

-- the token is what the word is read as, and no other leaf is spelled so
abbrev pub IsOnlyToken : {L : Type 0} → Grammar L → List ℕ → Token (Opener (List ℕ)) L → Type 0
IsOnlyToken g word (Leaf a) =
    IsToken g word (Leaf a) × ((b : _) → g.IsLeaf b → word ≡ g.spell b → a ≡ b)
IsOnlyToken g word (Begins opener) = IsToken g word (Begins opener)
IsOnlyToken g word Opens = IsToken g word Opens
IsOnlyToken g word Closes = IsToken g word Closes
IsOnlyToken g word Glued = IsToken g word Glued
IsOnlyToken g word Unknown = IsToken g word Unknown

-- the relation is between each word and its token
abbrev pub EachWord : {L : Type 0} → (List ℕ → Token (Opener (List ℕ)) L → Type 0) → List (List ℕ) →
    List (Token (Opener (List ℕ)) L) → Type 0
EachWord R [] [] = ⊤
EachWord R (w ∷ ws) (t ∷ ts) = R w t × EachWord R ws ts
EachWord R [] (t ∷ ts) = ⊥
EachWord R (w ∷ ws) [] = ⊥

-- each word with what it is read as
abbrev pub AreTokens : {L : Type 0} → Grammar L → List (List ℕ) → List (Token (Opener (List ℕ)) L) →
    Type 0
AreTokens g ws ts = EachWord (IsToken g) ws ts

-- the same, where no other leaf is spelled as one of the words
abbrev pub AreOnlyTokens : {L : Type 0} → Grammar L → List (List ℕ) →
    List (Token (Opener (List ℕ)) L) → Type 0
AreOnlyTokens g ws ts = EachWord (IsOnlyToken g) ws ts

-- a group has no opener, or one of the grammar's
abbrev pub IsOpening : {L : Type 0} → Grammar L → Option (Opener (List ℕ)) → Type 0
IsOpening g None = ⊤
IsOpening g (Some opener) = IsOpener g opener

-- the leaves and the openers of the tree are those of the grammar
abbrev mutual
  pub IsMadeOf : {L : Type 0} → Grammar L → Tree (Opener (List ℕ)) L → Type 0
  IsMadeOf g (leaf a) = g.IsLeaf a
  IsMadeOf g (group opener ts) = IsOpening g opener × AreMadeOf g ts

  pub AreMadeOf : {L : Type 0} → Grammar L → Trees (Opener (List ℕ)) L → Type 0
  AreMadeOf g no_trees = ⊤
  AreMadeOf g (tree t ts) = IsMadeOf g t × AreMadeOf g ts

-- the words of trees
abbrev pub tree_words : {L : Type 0} → Grammar L → Trees (Opener (List ℕ)) L → List (List ℕ)
tree_words g ts = map (token_text g) (all_tokens ts [])

-- the trees are in form: each of their words spells its token, no leaf is deeper than 64 groups,
-- and no barred leaf stands in an any-of group
pub record IsInForm {L : Type 0} (g : Grammar L) (barred : L → Bool)
    (ts : Trees (Opener (List ℕ)) L) : Type 0 where
  pub spelled : AreTokens g (tree_words g ts) (all_tokens ts [])
  pub words : list_all is_word (tree_words g ts) ≡ true
  pub low : all_depth ts ≤ 64
  pub free : all_free is_any_of barred false ts ≡ true
