-- Which keywords are accepted of a package (PMS 7.3.3): what stands for all, and then the words of
-- each line that means it, of which the last that speaks of a keyword counts.
use Rattle.std.specs.Prelude.{◌||◌, ℕ, Bool, List, [], ◌∷◌, bytes_eq, codes, filter}
use Rattle.std.specs.List.{find, flat_map, list_any}
use Rattle.std.specs.Option.{is_none, option_map_or}
use mathlib.Core.List.{reverse}
use Rattle.pms_names.specs.Flags.{has}
use Rattle.dep_atom.specs.declared.package.Facts.{Facts}
use Rattle.profile_folders.specs.Stacks.{taken_back}
use Rattle.visible_rules.specs.Items.{is_meant}
use Rattle.visible_rules.specs.declared.line.KeywordLine.{KeywordLine}

-- which keywords are accepted: those that stand for all packages, and lines for some; a line
-- without words has the words `bare`
pub record KeywordRules : Type 0 where
  pub standing : List (List ℕ)
  pub bare : List (List ℕ)
  pub lines : List KeywordLine

-- with this among what is accepted, every package is
abbrev pub every : List ℕ
every = codes "**"

-- a word takes back this one keyword, or with an asterisk each
abbrev pub is_taken : List ℕ → List ℕ → Bool
is_taken keyword taken = bytes_eq taken keyword || bytes_eq taken (codes "*")

-- the word speaks of the keyword: it is the keyword, or takes it back behind a hyphen
abbrev pub speaks_of : List ℕ → List ℕ → Bool
speaks_of keyword word = option_map_or (is_taken keyword) (taken_back word) (bytes_eq word keyword)

-- the word adds a keyword, and takes none back
abbrev pub is_added : List ℕ → Bool
is_added word = is_none (taken_back word)

-- the last of the words that speaks of the keyword adds it; where none does, it stands for all
abbrev pub is_accepted : List (List ℕ) → List (List ℕ) → List ℕ → Bool
is_accepted standing words keyword =
    option_map_or is_added (find (speaks_of keyword) (reverse words)) (has standing keyword)

-- the words of the line
abbrev pub words_of : List (List ℕ) → KeywordLine → List (List ℕ)
words_of bare line = or_these line.words.items where
  or_these : List (List ℕ) → List (List ℕ)
  or_these [] = bare
  or_these (word ∷ words) = word ∷ words

-- the words of the lines that mean the package, line by line
abbrev pub all_words : List (List ℕ) → Facts → List KeywordLine → List (List ℕ)
all_words bare facts lines =
    flat_map (words_of bare) (filter (λ l. is_meant facts l.atom) lines)

abbrev pub words_for : KeywordRules → Facts → List (List ℕ)
words_for rules facts = all_words rules.bare facts rules.lines

-- one of the package's keywords is accepted, or every package is
abbrev pub accepts : KeywordRules → Facts → List (List ℕ) → Bool
accepts rules facts keywords =
    list_any (is_accepted rules.standing (words_for rules facts)) (every ∷ keywords)
