-- The atoms that further words name, and the first word that is none.
use Rattle.std.specs.Prelude.{◌≡◌, ◌⊎◌, ⊤, string_bytes, ℕ, Bool, ◌&&◌, not, List, [], ◌∷◌, map, codes}
use Rattle.std.specs.List.{AllByRecursion, filter, list_any}
use Rattle.std.specs.Str.{bytes_eq}
use Rattle.dep_atom.specs.Atoms.{IsAtom, IsAtomValue}
use Rattle.dep_atom.specs.Text.{atom_text, value_text}
use Rattle.dep_atom.specs.Values.{AtomValue}
use Rattle.dep_atom.specs.declared.atom.Atom.{Atom}
use Rattle.dep_atom.specs.declared.atom.Block.TheVariants.{No}
use Rattle.emerge_words.specs.declared.request.WordFault.{WordFault}
use Rattle.emerge_words.specs.declared.request.WordFault.TheVariants.{Usage, BadAtom, BadNumber, Memory}

-- the word that stands for the atoms of the world file
abbrev pub is_world : List ℕ → Bool
is_world word = bytes_eq word (codes "@world")

-- one of the words stands for the atoms of the world file
abbrev pub has_world : List (List ℕ) → Bool
has_world words = list_any is_world words

-- the word shall be an atom; where the world may be named, its word is none
abbrev pub is_kept : Bool → List ℕ → Bool
is_kept may_name_world word = not (may_name_world && is_world word)

-- the words that shall be atoms
abbrev pub atom_words : Bool → List (List ℕ) → List (List ℕ)
atom_words may_name_world words = filter (is_kept may_name_world) words

-- an atom without a block
pub record IsFree (atom : Atom) : Type 0 where
  pub form : IsAtom atom
  pub no_block : atom.block ≡ No

-- the words are the texts of these atoms, in order
pub record AreNamed (words : List (List ℕ)) (atoms : List Atom) : Type 0 where
  pub texts : words ≡ map atom_text atoms
  pub free : AllByRecursion IsFree atoms

-- no atom without a block is written so
abbrev pub IsNoAtom : List ℕ → Type 0
IsNoAtom word = (a : AtomValue) → IsAtomValue a → a.block ≡ No → ¬ (word ≡ value_text a)

-- some atom without a block is written so
abbrev pub IsAtomWord : List ℕ → Type 0
IsAtomWord word = (atom : Atom) × IsFree atom × (word ≡ atom_text atom)

-- the first of the words that is no atom without a block
abbrev pub FirstNoAtom : List (List ℕ) → List ℕ → Type 0
FirstNoAtom [] bad = ⊥
FirstNoAtom (word ∷ words) bad =
    ((word ≡ bad) × IsNoAtom word) ⊎ (IsAtomWord word × FirstNoAtom words bad)

-- the fault tells this word as a bad atom, or that memory ran out
abbrev pub TellsAtom : List ℕ → WordFault → Type 0
TellsAtom word Usage = ⊥
TellsAtom word (BadAtom told) = string_bytes told ≡ word
TellsAtom word (BadNumber told) = ⊥
TellsAtom word Memory = ⊤

-- why a word isn't read as an atom
abbrev pub TellsNoAtom : List ℕ → WordFault → Type 0
TellsNoAtom word Usage = ⊥
TellsNoAtom word (BadAtom told) = (string_bytes told ≡ word) × IsNoAtom word
TellsNoAtom word (BadNumber told) = ⊥
TellsNoAtom word Memory = ⊤

-- why words aren't read as atoms
abbrev pub HasNoAtom : List (List ℕ) → WordFault → Type 0
HasNoAtom words Usage = ⊥
HasNoAtom words (BadAtom told) = FirstNoAtom words (string_bytes told)
HasNoAtom words (BadNumber told) = ⊥
HasNoAtom words Memory = ⊤
