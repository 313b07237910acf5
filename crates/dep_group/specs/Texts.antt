-- The texts of trees, and the first fault of a text that is none.
use Rattle.std.specs.Prelude.{◌≡◌, ℕ, Bool, List}
use Rattle.dep_group.specs.declared.token.GroupFault.{GroupFault}
use Rattle.dep_group.specs.declared.token.GroupFault.TheVariants as faults
use Rattle.dep_group.specs.declared.token.Opener.{Opener}
use Rattle.dep_group.specs.Faults.{FirstWordFault}
use Rattle.dep_group.specs.Tokens.{Grammar, IsInForm, tree_words}
use Rattle.dep_group.specs.Trees.{Trees}
use Rattle.dep_group.specs.Words.{Spot, place, spaced, words, words_of}

-- the words of trees with one space between each two
abbrev pub text_of : {L : Type 0} → Grammar L → Trees (Opener (List ℕ)) L → List ℕ
text_of g x = spaced (tree_words g x)

-- the words of the text are those of these trees, which are in form
abbrev pub Writes : {L : Type 0} → Grammar L → (L → Bool) → List ℕ →
    Trees (Opener (List ℕ)) L → Type 0
Writes g barred text x = IsInForm g barred x × (words_of text ≡ tree_words g x)

-- the text writes some trees
abbrev pub WritesSome : {L : Type 0} → Grammar L → (L → Bool) → List ℕ → Type 0
WritesSome g barred text = (x : Trees (Opener (List ℕ)) _) × Writes g barred text x

-- the fault of a word, at the place of its first byte
abbrev pub placed : List Spot → GroupFault → GroupFault
placed ws (faults.Leaf at) = faults.Leaf (place ws at)
placed ws (faults.Barred at) = faults.Barred (place ws at)
placed ws (faults.Open at) = faults.Open (place ws at)
placed ws (faults.Close at) = faults.Close (place ws at)
placed ws (faults.NoSpace at) = faults.NoSpace (place ws at)
placed ws faults.Depth = faults.Depth
placed ws faults.Memory = faults.Memory

abbrev pub IsMemory : GroupFault → Type 0
IsMemory fault = fault ≡ faults.Memory

-- the first fault of the text is that of its words, at its place
pub record FirstFault {L : Type 0} (g : Grammar L) (barred : L → Bool) (text : List ℕ)
    (fault : GroupFault) : Type 0 where
  pub of_words : GroupFault
  pub first : FirstWordFault g barred (words_of text) of_words
  pub here : fault ≡ placed (words 0 text) of_words
