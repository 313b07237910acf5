-- The first fault of words that are no text of groups: what stands before is in order, and no more
-- is.
use Rattle.std.specs.Prelude.{◌≡◌, ℕ, zero, suc, ◌+◌, ◌<◌, ◌≤◌, ◌⊎◌, ⊤, Bool, true, List, [], ◌∷◌, ◌++◌, length, take, drop}
use Rattle.dep_group.specs.declared.token.Opener.{Opener}
use Rattle.dep_group.specs.declared.token.Token.{Token}
use Rattle.dep_group.specs.declared.token.Token.TheVariants.{Leaf, Begins, Opens, Closes, Glued, Unknown}
use Rattle.dep_group.specs.declared.token.GroupFault.{GroupFault}
use Rattle.dep_group.specs.declared.token.GroupFault.TheVariants as fault
use Rattle.dep_group.specs.Shapes.{close_parenthesis}
use Rattle.dep_group.specs.Tokens.{Grammar, IsToken, IsInForm, tree_words}
use Rattle.dep_group.specs.Trees.{Trees}

-- the words of a text, one after another
abbrev pub WordList : Type 0
WordList = List (List ℕ)

-- the words are a text in form
abbrev pub IsText : {L : Type 0} → Grammar L → (L → Bool) → WordList → Type 0
IsText g barred ws =
    (x : Trees (Opener (List ℕ)) _) × IsInForm g barred x × (ws ≡ tree_words g x)

-- so many closing parentheses
abbrev pub closings : ℕ → WordList
closings zero = []
closings (suc n) = (close_parenthesis ∷ []) ∷ closings n

-- the words are in order and leave so many groups open: as many parentheses make them a text
abbrev pub LeavesOpen : {L : Type 0} → Grammar L → (L → Bool) → WordList → ℕ → Type 0
LeavesOpen g barred ws unclosed = IsText g barred (ws ++ closings unclosed)

-- some words behind these make them a text in form
abbrev pub Begin : {L : Type 0} → Grammar L → (L → Bool) → WordList → Type 0
Begin g barred ws = (more : WordList) × IsText g barred (ws ++ more)

-- the first of the words is read as this token
abbrev pub FirstIs : {L : Type 0} → Grammar L → WordList → Token (Opener (List ℕ)) L → Type 0
FirstIs g [] token = ⊥
FirstIs g (w ∷ ws) token = IsToken g w token

-- the word is an opener of the grammar
abbrev pub IsOpenerWord : {L : Type 0} → Grammar L → List ℕ → Type 0
IsOpenerWord g w = (opener : Opener (List ℕ)) × IsToken g w (Begins opener)

-- the first of the words is an opener, and the second is no parenthesis to open its group
abbrev pub LacksGroup : {L : Type 0} → Grammar L → WordList → Type 0
LacksGroup g [] = ⊥
LacksGroup g (w ∷ ws) = IsOpenerWord g w × ¬ FirstIs g ws Opens

-- the first of the words is the parenthesis of a group, or its opener with the parenthesis behind
abbrev pub BeginsGroup : {L : Type 0} → Grammar L → WordList → Type 0
BeginsGroup g [] = ⊥
BeginsGroup g (w ∷ ws) = IsToken g w Opens ⊎ (IsOpenerWord g w × FirstIs g ws Opens)

-- the word is a barred leaf, and those before it begin no text with it
pub record IsBarredBehind {L : Type 0} (g : Grammar L) (barred : L → Bool) (front : WordList)
    (w : List ℕ) : Type 0 where
  pub leaf : L
  pub token : IsToken g w (Leaf leaf)
  pub is_barred : barred leaf ≡ true
  pub no_text : ¬ Begin g barred (front ++ w ∷ [])

-- the same of the first of the words
abbrev pub BeginsBarred : {L : Type 0} → Grammar L → (L → Bool) → WordList → WordList → Type 0
BeginsBarred g barred front [] = ⊥
BeginsBarred g barred front (w ∷ ws) = IsBarredBehind g barred front w

-- the parenthesis of the group that begins at `start` is there, or behind an opener
abbrev pub IsParenthesis : {L : Type 0} → Grammar L → ℕ → ℕ → WordList → Type 0
IsParenthesis g start at [] = ⊥
IsParenthesis g start at (w ∷ ws) =
    (IsToken g w Opens × (at ≡ start)) ⊎ (IsOpenerWord g w × (at ≡ start + 1))

-- the parenthesis at `at` opens the outermost of the groups that are open: before this group is a
-- text in form, and no longer beginning of the words is one
pub record IsOutermost {L : Type 0} (g : Grammar L) (barred : L → Bool) (ws : WordList)
    (at : ℕ) : Type 0 where
  pub start : ℕ
  pub before : IsText g barred (take start ws)
  pub last : (n : ℕ) → start < n → n ≤ length ws → ¬ IsText g barred (take n ws)
  pub place : IsParenthesis g start at (drop start ws)

-- why `back` can't stand behind words in order that leave so many groups open; memory may always
-- run out
abbrev pub Stops : {L : Type 0} → Grammar L → (L → Bool) → WordList → ℕ → WordList → GroupFault →
    Type 0
Stops g barred front unclosed back (fault.Leaf at) =
    (at ≡ length front) × (FirstIs g back Unknown ⊎ LacksGroup g back)
Stops g barred front unclosed back (fault.NoSpace at) = (at ≡ length front) × FirstIs g back Glued
Stops g barred front unclosed back (fault.Close at) =
    (at ≡ length front) × (unclosed ≡ 0) × FirstIs g back Closes
Stops g barred front unclosed back (fault.Barred at) =
    (at ≡ length front) × BeginsBarred g barred front back
Stops g barred front unclosed back fault.Depth = (unclosed ≡ 64) × BeginsGroup g back
Stops g barred front unclosed back (fault.Open at) = (back ≡ []) × IsOutermost g barred front at
Stops g barred front unclosed back fault.Memory = ⊤

-- the first fault of the words, from the left: they are in order up to `back`, and no further
pub record FirstWordFault {L : Type 0} (g : Grammar L) (barred : L → Bool) (ws : WordList)
    (why : GroupFault) : Type 0 where
  pub front : WordList
  pub back : WordList
  pub whole : ws ≡ front ++ back
  pub unclosed : ℕ
  pub order : LeavesOpen g barred front unclosed
  pub here : Stops g barred front unclosed back why
