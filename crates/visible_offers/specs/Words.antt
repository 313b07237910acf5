-- What the variables of the configuration say of flags (PMS 5.2.4, 5.3.1): each word of a value
-- says that one flag is on or off, and `-*` says it of all flags of its variable that they are off.
use Rattle.std.specs.Prelude.{◌++◌, ℕ, Bool, ◌||◌, false, List, [], ◌∷◌, Option, None, Some, bytes_eq, codes, drop, filter, fold, if◌then◌else◌, length, map, take, unwrap_or}
use Rattle.std.specs.List.{flat_map}
use Rattle.std.specs.Option.{is_none, option_map_or, option_or}
use Rattle.config_text.specs.declared.assignment.Assignment.{Assignment}
use Rattle.config_vars.specs.Judged.{counted}
use Rattle.config_vars.specs.Values.{expanded, flag_of, is_clear, last_value, stacked}
use Rattle.config_vars.specs.declared.vars.FileVars.{FileVars}
use Rattle.dep_group.specs.Words.{words_of}
use Rattle.pms_names.specs.Flags.{has}
use Rattle.profile_folders.specs.Stacks.{taken_back, unsigned}
use Rattle.visible_offers.specs.declared.word.FlagWord.{FlagWord}

-- the variable's values are flags: it is USE, or one of those that are expanded
abbrev pub is_of_flags : List (List ℕ) → List ℕ → Bool
is_of_flags variables key = bytes_eq key (codes "USE") || has variables key

-- the names of the variable's flags begin with this; those of USE may begin with anything
abbrev pub prefix_of : List ℕ → List ℕ
prefix_of key = if bytes_eq key (codes "USE") then [] else flag_of key []

-- a word of a variable whose flags begin with this
abbrev pub flag_word : List ℕ → List ℕ → FlagWord
flag_word prefix word = record { prefix = prefix; word = word }

-- the words of the assignment, where these variables are expanded
abbrev pub words_by : List (List ℕ) → Assignment → List FlagWord
words_by variables a =
    if is_of_flags variables a.key then map (flag_word (prefix_of a.key)) (words_of a.value)
    else []

-- the words of the file's assignments that count, in the order of their lines
abbrev pub words_in : List (List ℕ) → FileVars → List FlagWord
words_in variables file = flat_map (words_by variables) (counted file.assigned.items)

-- the words of the files, file by file
abbrev pub flag_words : List (List ℕ) → List FileVars → List FlagWord
flag_words variables files = flat_map (words_in variables) files

-- what a word says of the flag that it makes, or with `-*` of any of its variable, if it speaks of
-- the one with this item: that it is on, or that it is off
abbrev pub said_of : List ℕ → List ℕ → Option Bool
said_of word item =
    if is_clear word then Some false
    else if bytes_eq item (unsigned word) then Some (is_none (taken_back word)) else None

-- what a word says of a flag, which is to begin as those of its variable do
abbrev pub said_by : FlagWord → List ℕ → Option Bool
said_by w flag =
    if bytes_eq (take (length w.prefix) flag) w.prefix then
    said_of w.word (drop (length w.prefix) flag)
    else None

-- what the last of the words that speaks of the flag says of it
abbrev pub said : List FlagWord → List ℕ → Option Bool
said words flag = fold (λ before w. option_or (said_by w flag) before) None words

-- whether a flag that was on or off is on behind the words: as the last says that speaks of it
abbrev pub after_words : List FlagWord → List ℕ → Bool → Bool
after_words words flag had = unwrap_or (said words flag) had

-- the value of ARCH, if it has one
abbrev pub arch_of : List FileVars → List (List ℕ)
arch_of files = option_map_or (λ value. value ∷ []) (last_value (codes "ARCH") files) []

-- the variables that are expanded and that USE_EXPAND_IMPLICIT names
abbrev pub implicit_variables : List FileVars → List (List ℕ)
implicit_variables files =
    filter (has (stacked (codes "USE_EXPAND_IMPLICIT") files)) (expanded files)

-- what the words of the variable make that stand over all files
abbrev pub flags_of : List FileVars → List ℕ → List (List ℕ)
flags_of files variable = map (flag_of variable) (stacked variable files)

-- the texts of the implicit flags: the value of ARCH, and what those variables make
abbrev pub implicit_texts : List FileVars → List (List ℕ)
implicit_texts files = arch_of files ++ flat_map (flags_of files) (implicit_variables files)
