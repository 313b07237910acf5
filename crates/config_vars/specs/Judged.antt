-- Which values the variables of the files may have, and the first assignment with another one.
use Rattle.std.specs.Prelude.{◌≡◌, ◌⊎◌, ℕ, false, true, List, [], ◌∷◌, ◌++◌, codes, if◌then◌else◌, ⊤}
use Rattle.std.specs.List.{AllByRecursion, list_any}
use Rattle.config_text.specs.Values.{IsKey}
use Rattle.config_text.specs.declared.assignment.Assignment.{Assignment}
use Rattle.dep_group.specs.Words.{words_of}
use Rattle.pms_names.specs.Flags.{has}
use Rattle.pms_names.specs.Names.{IsName}
use Rattle.pms_names.specs.declared.kind.Kind.TheVariants.{Flag}
use Rattle.profile_folders.specs.Stacks.{unsigned}
use Rattle.use_flags.specs.Changes.{IsChange}
use Rattle.config_vars.specs.Values.{expanded, flag_of, is_clear, is_of}
use Rattle.config_vars.specs.declared.fault.VarFault.{VarFault}
use Rattle.config_vars.specs.declared.fault.VarFault.TheVariants.{Memory, Value}
use Rattle.config_vars.specs.declared.grammar.Grammar.{Grammar}
use Rattle.config_vars.specs.declared.grammar.Grammar.TheVariants.{Changes, Keys}
use Rattle.config_vars.specs.declared.vars.FileVars.{FileVars}

-- the word is one that such a variable may have: a change of flags; or `-*`, or with a hyphen
-- before it or without one the KEY of a variable
abbrev pub IsWordOf : Grammar → List ℕ → Type 0
IsWordOf Changes word = IsChange word
IsWordOf Keys word = (is_clear word ≡ true) ⊎ IsKey (unsigned word)

-- each word of the value is one that such a variable may have
abbrev pub AreWordsOf : Grammar → List ℕ → Type 0
AreWordsOf grammar value = AllByRecursion (IsWordOf grammar) (words_of value)

-- the word is `-*`, or with a hyphen before it or without one makes a flag of the expanded variable
abbrev pub IsItemOf : List ℕ → List ℕ → Type 0
IsItemOf variable word =
    (is_clear word ≡ true) ⊎ IsName Flag (flag_of variable (unsigned word))

-- each word of the value is such an item
abbrev pub AreItemsOf : List ℕ → List ℕ → Type 0
AreItemsOf variable value = AllByRecursion (IsItemOf variable) (words_of value)

-- the assignment gives its variable a value that it may have, where these variables are expanded
pub record IsGood (variables : List (List ℕ)) (a : Assignment) : Type 0 where
  pub uses : is_of (codes "USE") a ≡ true → AreWordsOf Changes a.value
  pub expand : is_of (codes "USE_EXPAND") a ≡ true → AreWordsOf Keys a.value
  pub implicit : is_of (codes "USE_EXPAND_IMPLICIT") a ≡ true → AreWordsOf Keys a.value
  pub arch : is_of (codes "ARCH") a ≡ true → IsName Flag a.value
  pub items : has variables a.key ≡ true → AreItemsOf a.key a.value

-- the assignment isn't good, and none of those behind it replaces it
abbrev pub IsBad : List (List ℕ) → Assignment → List Assignment → Type 0
IsBad variables a rest = (¬ IsGood variables a) × (list_any (is_of a.key) rest ≡ false)

-- the assignment is good, or one of those behind it replaces it
abbrev pub IsFine : List (List ℕ) → Assignment → List Assignment → Type 0
IsFine variables a rest = IsGood variables a ⊎ (list_any (is_of a.key) rest ≡ true)

-- the assignments that none behind them replaces
abbrev pub counted : List Assignment → List Assignment
counted [] = []
counted (a ∷ rest) = if list_any (is_of a.key) rest then counted rest else a ∷ counted rest

-- each of the assignments that counts is good
abbrev pub AreGoodIn : List (List ℕ) → List Assignment → Type 0
AreGoodIn variables assigned = AllByRecursion (IsGood variables) (counted assigned)

-- each of the file's assignments that counts is good
abbrev pub IsGoodFile : List (List ℕ) → FileVars → Type 0
IsGoodFile variables file = AreGoodIn variables file.assigned.items

-- the first of the assignments that counts and isn't good stands in this line
pub record IsBadAt (variables : List (List ℕ)) (assigned : List Assignment)
    (line : ℕ) : Type 0 where
  pub front : List Assignment
  pub bad : Assignment
  pub rest : List Assignment
  pub place : counted assigned ≡ front ++ (bad ∷ rest)
  pub good : AllByRecursion (IsGood variables) front
  pub other : ¬ IsGood variables bad
  pub lined : line ≡ bad.line

-- the first file that isn't good has this path, and is bad at this line
pub record IsBadFile (variables : List (List ℕ)) (files : List FileVars) (path : List ℕ)
    (line : ℕ) : Type 0 where
  pub front : List FileVars
  pub bad : FileVars
  pub rest : List FileVars
  pub place : files ≡ front ++ (bad ∷ rest)
  pub good : AllByRecursion (IsGoodFile variables) front
  pub at_line : IsBadAt variables bad.assigned.items line
  pub named : path ≡ bad.path

-- every file is good, by the variables that all of them expand
abbrev pub AreGood : List FileVars → Type 0
AreGood files = AllByRecursion (IsGoodFile (expanded files)) files

-- the first fault of the files; memory may run out on any
abbrev pub FirstFault : List FileVars → VarFault → Type 0
FirstFault files (Value path line) = IsBadFile (expanded files) files path line
FirstFault files Memory = ⊤
