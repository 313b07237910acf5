-- What the files of the configuration say of a variable (PMS 5.2.4, 5.3.1): in one file its last
-- assignment counts, and the values of the files stand behind one another or replace one another.
use Rattle.std.specs.Prelude.{ℕ, Bool, not, List, [], ◌∷◌, ◌++◌, Option, bytes_eq, codes, filter, fold, if◌then◌else◌, map}
use Rattle.std.specs.Char.{to_ascii_lowercase}
use Rattle.std.specs.List.{find, flat_map}
use Rattle.std.specs.Option.{option_map, option_map_or}
use mathlib.Core.List.{reverse}
use Rattle.config_text.specs.declared.assignment.Assignment.{Assignment}
use Rattle.dep_group.specs.Words.{words_of}
use Rattle.profile_folders.specs.Stacks as stacks
use Rattle.config_vars.specs.declared.vars.FileVars.{FileVars}

-- the assignment is one of the variable
abbrev pub is_of : List ℕ → Assignment → Bool
is_of key a = bytes_eq a.key key

-- the value of the last of the assignments that is of the variable
abbrev pub value_in : List ℕ → List Assignment → Option (List ℕ)
value_in key assigned = option_map (λ a. a.value) (find (is_of key) (reverse assigned))

-- the value in the last of the files that sets the variable
abbrev pub last_value : List ℕ → List FileVars → Option (List ℕ)
last_value key files = value_in key (flat_map (λ f. f.assigned.items) files)

-- the words of the variable's value in the file
abbrev pub words_in : List ℕ → FileVars → List (List ℕ)
words_in key file = option_map_or words_of (value_in key file.assigned.items) []

-- the words that the files say of the variable, file by file
abbrev pub words_said : List ℕ → List FileVars → List (List ℕ)
words_said key files = flat_map (words_in key) files

-- the word takes all words away
abbrev pub is_clear : List ℕ → Bool
is_clear word = bytes_eq word (codes "-*")

-- those words, with one more behind them, that no `-*` stands behind
abbrev pub with_word : List (List ℕ) → List ℕ → List (List ℕ)
with_word since word = if is_clear word then [] else since ++ word ∷ []

-- the words behind the last `-*`, or all
abbrev pub since_clear : List (List ℕ) → List (List ℕ)
since_clear words = fold with_word [] words

-- the words of the variable that stand: of those behind the last `-*` a word adds itself, and
-- behind a hyphen it takes an equal one away
abbrev pub stacked : List ℕ → List FileVars → List (List ℕ)
stacked key files = stacks.stacked (since_clear (words_said key files))

-- the variable isn't USE itself
abbrev pub is_expanded : List ℕ → Bool
is_expanded variable = not (bytes_eq variable (codes "USE"))

-- the variables whose values are flags: those that USE_EXPAND names, but USE
abbrev pub expanded : List FileVars → List (List ℕ)
expanded files = filter is_expanded (stacked (codes "USE_EXPAND") files)

-- the flag that a word of an expanded variable makes: the variable's name in lower case, `_`, and
-- the word
abbrev pub flag_of : List ℕ → List ℕ → List ℕ
flag_of variable word = map to_ascii_lowercase variable ++ (codes "_" ++ word)
