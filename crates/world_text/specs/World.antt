-- What a world file says, and why a text is none.
use Rattle.std.specs.Prelude.{◌≡◌, ◌++◌, ℕ, List, [], ◌∷◌, Option, None, Some, ⊤}
use Rattle.std.specs.List.{AllZip}
use Rattle.std.specs.Str.{IsUtf8}
use Rattle.config_text.specs.Lines.{lines}
use Rattle.config_text.specs.declared.line.Line.{Line}
use Rattle.dep_atom.specs.declared.atom.Atom.{Atom}
use Rattle.dep_group.specs.Words.{words_of}
use Rattle.profile_lines.specs.Items.{IsPlainAtom}
use Rattle.world_text.specs.declared.fault.WorldFault.{WorldFault}
use Rattle.world_text.specs.declared.fault.WorldFault.TheVariants.{Atom as AtomAt, Memory, NotUtf8}

-- the line has one word, with blanks around it at most, and that is this atom
pub record IsWorldLine (line : Line) (atom : Atom) : Type 0 where
  pub word : List ℕ
  pub alone : words_of line.text ≡ word ∷ []
  pub named : IsPlainAtom word atom

-- the atom that is so, or none, where none is
abbrev pub IsThe : (Atom → Type 0) → Option Atom → Type 0
IsThe Is None = (atom : Atom) → ¬ Is atom
IsThe Is (Some atom) = Is atom

-- the atom that the word is, or that the line is, if there is one
abbrev pub NamesPlain : List ℕ → Option Atom → Type 0
NamesPlain word found = IsThe (IsPlainAtom word) found

abbrev pub Names : Line → Option Atom → Type 0
Names line found = IsThe (IsWorldLine line) found

-- the text is UTF-8, and its lines that count are these atoms, line by line
pub record IsWorld (text : List ℕ) (atoms : List Atom) : Type 0 where
  pub utf8 : IsUtf8 text
  pub each : AllZip IsWorldLine (lines text) atoms

-- the line with this number is the first that counts and is no atom
pub record FirstBad (text : List ℕ) (number : ℕ) : Type 0 where
  pub utf8 : IsUtf8 text
  pub front : List Line
  pub good : List Atom
  pub bad : Line
  pub rest : List Line
  pub place : lines text ≡ front ++ (bad ∷ rest)
  pub each : AllZip IsWorldLine front good
  pub none : (atom : Atom) → ¬ IsWorldLine bad atom
  pub told : number ≡ bad.number

-- why a text is no world file; want of memory says nothing
abbrev pub IsFaulty : List ℕ → WorldFault → Type 0
IsFaulty text NotUtf8 = ¬ IsUtf8 text
IsFaulty text (AtomAt line) = FirstBad text line
IsFaulty text Memory = ⊤
