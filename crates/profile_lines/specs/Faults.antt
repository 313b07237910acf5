-- Why a line isn't in form, and the first such line of a file.
use Rattle.std.specs.Prelude.{◌≡◌, ◌⊎◌, ◌<◌, ◌++◌, ℕ, List, [], ◌∷◌, length, ⊤}
use Rattle.std.specs.List.{AllByRecursion}
use Rattle.dep_atom.specs.declared.atom.Atom.{Atom}
use Rattle.dep_group.specs.Words.{words_of}
use Rattle.file_tree.specs.declared.fault.TreeFault.TheVariants as trees
use Rattle.profile_folders.specs.Machine.{IsOfMachine}
use Rattle.profile_folders.specs.Stacks.{unsigned}
use Rattle.profile_folders.specs.declared.fault.ProfileFault.{ProfileFault}
use Rattle.profile_folders.specs.declared.fault.ProfileFault.TheVariants as stacks
use Rattle.profile_folders.specs.declared.line_file.FileLine.{FileLine}
use Rattle.use_flags.specs.Changes.{IsChange}
use Rattle.profile_lines.specs.Items.{AreEntries, IsPlainAtom}
use Rattle.profile_lines.specs.declared.fault.LineFault.{LineFault}
use Rattle.profile_lines.specs.declared.fault.LineFault.TheVariants.{Memory, NoAtom, NoChange}
use Rattle.profile_lines.specs.declared.fault.ReadFault.{ReadFault}
use Rattle.profile_lines.specs.declared.fault.ReadFault.TheVariants.{Atom as AtomAt, Profile}
use Rattle.profile_lines.specs.declared.item.Entry.{Entry}
use Rattle.profile_lines.specs.declared.item.Form.{Form}
use Rattle.profile_lines.specs.declared.item.Form.TheVariants as forms

-- the first word is no atom without a block, or there is none
abbrev pub NamesNothing : List (List ℕ) → Type 0
NamesNothing [] = ⊤
NamesNothing (word ∷ rest) = (atom : Atom) → ¬ IsPlainAtom (unsigned word) atom

-- the first word is such an atom, and a later one is no change of flags
abbrev pub ChangesNothing : List (List ℕ) → Type 0
ChangesNothing [] = ⊥
ChangesNothing (word ∷ rest) =
    ((atom : Atom) × IsPlainAtom (unsigned word) atom) × (¬ AllByRecursion IsChange rest)

-- why the words of a line of this form say nothing: a word that should be an atom is none, or a
-- second one stands behind a mask; or else a word that should be a change is none
abbrev pub IsBadBy : Form → List (List ℕ) → LineFault → Type 0
IsBadBy forms.Masks ws NoAtom = NamesNothing ws ⊎ (1 < length ws)
IsBadBy forms.Rules ws NoAtom = NamesNothing ws
IsBadBy forms.Rules ws NoChange = ChangesNothing ws
IsBadBy forms.Flags ws NoChange = ¬ AllByRecursion IsChange ws
IsBadBy forms.Keywords ws NoAtom = NamesNothing ws
IsBadBy form ws fault = ⊥

-- memory ran out
abbrev pub out_of_memory : ReadFault
out_of_memory = Profile (stacks.Tree trees.Memory)

-- the tree's device failed
abbrev pub device_failed : ReadFault
device_failed = Profile (stacks.Tree trees.Failed)

-- what the fault of a line is called
abbrev pub fault_at : FileLine → LineFault → ReadFault
fault_at line NoAtom = AtomAt line.file line.number
fault_at line NoChange = Profile (stacks.Text line.file line.number)
fault_at line Memory = out_of_memory

-- the first line that isn't in form is told, by its file and number
pub record FirstBad (form : Form) (lines : List FileLine) (fault : ReadFault) : Type 0 where
  pub front : List FileLine
  pub good : List Entry
  pub bad : FileLine
  pub rest : List FileLine
  pub place : lines ≡ front ++ (bad ∷ rest)
  pub each : AreEntries form front good
  pub why : LineFault
  pub has : IsBadBy form (words_of bad.text) why
  pub told : fault ≡ fault_at bad why

-- the machine failed, whatever the tree holds
abbrev pub IsMachine : ReadFault → Type 0
IsMachine fault = (own : ProfileFault) × IsOfMachine own × (fault ≡ Profile own)
