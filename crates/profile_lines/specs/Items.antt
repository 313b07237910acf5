-- What a line of a line file says (PMS 5.2.4 to 5.2.11): an atom, an atom and changes of flags or
-- keywords, or changes of flags alone; a hyphen before the atom takes equal items back.
use Rattle.std.specs.Prelude.{◌≡◌, ◌==◌, ℕ, Bool, false, List, [], ◌∷◌, None, Some, length, map}
use Rattle.std.specs.List.{AllByRecursion, AllZip}
use Rattle.dep_atom.specs.Atoms.{IsAtom}
use Rattle.dep_atom.specs.Text.{atom_text}
use Rattle.dep_atom.specs.declared.atom.Atom.{Atom}
use Rattle.dep_atom.specs.declared.atom.Block.TheVariants.{No}
use Rattle.dep_group.specs.Words.{spaced, words_of}
use Rattle.profile_folders.specs.Stacks.{hyphen, unsigned}
use Rattle.profile_folders.specs.declared.line_file.FileLine.{FileLine}
use Rattle.use_flags.specs.Changes.{IsChange, change_of}
use Rattle.use_flags.specs.declared.change.Change.{Change}
use Rattle.profile_lines.specs.declared.item.Entry.{Entry}
use Rattle.profile_lines.specs.declared.item.Form.{Form}
use Rattle.profile_lines.specs.declared.item.Form.TheVariants as forms

-- a hyphen stands before the word
abbrev pub is_signed : List ℕ → Bool
is_signed [] = false
is_signed (b ∷ bytes) = b == hyphen

-- the word is this atom, which has no block
pub record IsPlainAtom (word : List ℕ) (atom : Atom) : Type 0 where
  pub form : IsAtom atom
  pub plain : atom.block ≡ No
  pub spelled : word ≡ atom_text atom

-- the words are these changes of flags
pub record AreChanges (ws : List (List ℕ)) (changes : List Change) : Type 0 where
  pub each : AllByRecursion IsChange ws
  pub these : changes ≡ map change_of ws

-- the words are an atom and others behind it; the item's text has one space between its words
pub record NamesPackages (ws rest : List (List ℕ)) (entry : Entry) : Type 0 where
  pub word : List ℕ
  pub cut : ws ≡ word ∷ rest
  pub atom : Atom
  pub named : IsPlainAtom (unsigned word) atom
  pub has : entry.item.atom ≡ Some atom
  pub signed : entry.takes_back ≡ is_signed word
  pub text : entry.item.text ≡ spaced (unsigned word ∷ rest)

-- the words are an atom and changes of flags
pub record IsRule (ws : List (List ℕ)) (entry : Entry) : Type 0 where
  pub rest : List (List ℕ)
  pub names : NamesPackages ws rest entry
  pub changes : AreChanges rest entry.item.changes.items
  pub keywords : entry.item.keywords.items ≡ []

-- the words are an atom and keywords, which may be any words
pub record IsKeywordLine (ws : List (List ℕ)) (entry : Entry) : Type 0 where
  pub rest : List (List ℕ)
  pub names : NamesPackages ws rest entry
  pub changes : entry.item.changes.items ≡ []
  pub keywords : entry.item.keywords.items ≡ rest

-- the words are changes of flags, for every package
pub record IsFlagLine (ws : List (List ℕ)) (entry : Entry) : Type 0 where
  pub all : entry.item.atom ≡ None
  pub changes : AreChanges ws entry.item.changes.items
  pub keywords : entry.item.keywords.items ≡ []
  pub adds : entry.takes_back ≡ false
  pub text : entry.item.text ≡ spaced ws

-- the words of a line of this form say this
abbrev pub Says : Form → List (List ℕ) → Entry → Type 0
Says forms.Masks ws entry = IsRule ws entry × (length ws ≡ 1)
Says forms.Rules ws entry = IsRule ws entry
Says forms.Flags ws entry = IsFlagLine ws entry
Says forms.Keywords ws entry = IsKeywordLine ws entry

-- the line says this
abbrev pub IsEntry : Form → FileLine → Entry → Type 0
IsEntry form line entry = Says form (words_of line.text) entry

-- the lines say these, line by line
abbrev pub AreEntries : Form → List FileLine → List Entry → Type 0
AreEntries form lines entries = AllZip (IsEntry form) lines entries
