-- Changes of a set of flags: a flag put in or taken out, or all taken out.
use Rattle.std.specs.Prelude.{◌≡◌, ℕ, Bool, false, not, ◌||◌, ◌&&◌, List, [], ◌∷◌, bytes_eq, ◌==◌, if◌then◌else◌, fold, ⊤}
use Rattle.pms_names.specs.Flags.{has}
use Rattle.pms_names.specs.Names.{IsName}
use Rattle.pms_names.specs.declared.kind.Kind.TheVariants.{Flag}
use Rattle.use_flags.specs.declared.change.Change.{Change}
use Rattle.use_flags.specs.declared.change.Change.TheVariants.{Add, Take, Clear}
use Rattle.use_flags.specs.Items.{hyphen}

-- the text `-*`
abbrev pub clear_text : List ℕ
clear_text = hyphen ∷ 42 ∷ []

-- the change that the word writes: `-*`, `-flag` or `flag`
abbrev pub change_of : List ℕ → Change
change_of [] = Add []
change_of (b ∷ bytes) =
    if bytes_eq (b ∷ bytes) clear_text then Clear
    else if b == hyphen then Take bytes
    else Add (b ∷ bytes)

-- the change is one of a flag's name, or of no flag
abbrev pub IsWellNamed : Change → Type 0
IsWellNamed (Add flag) = IsName Flag flag
IsWellNamed (Take flag) = IsName Flag flag
IsWellNamed Clear = ⊤

-- the word is a change
abbrev pub IsChange : List ℕ → Type 0
IsChange word = IsWellNamed (change_of word)

-- whether a set has the flag after the change, by whether it had it before
abbrev pub changed : List ℕ → Bool → Change → Bool
changed flag had (Add added) = bytes_eq flag added || had
changed flag had (Take taken) = not (bytes_eq flag taken) && had
changed flag had Clear = false

-- the same after all the changes, in their order
abbrev pub has_after : List Change → List ℕ → Bool → Bool
has_after changes flag had = fold (changed flag) had changes

-- the set that was is now as it is after the changes
abbrev pub Applies : List Change → List (List ℕ) → List (List ℕ) → Type 0
Applies changes was is = (q : List ℕ) → has is q ≡ has_after changes q (has was q)
