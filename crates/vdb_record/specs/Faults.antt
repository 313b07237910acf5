-- The first fault of texts that tell no package.
use Rattle.std.specs.Prelude.{◌≡◌, ◌⊎◌, ◌-◌, ℕ, Bool, true, false, not, List, [], ◌∷◌, ⊤, Option, None, Some, position, take, unwrap_or, IsSome}
use Rattle.std.specs.Str.{IsUtf8}
use Rattle.basics.specs.Blanks.{is_blank}
use Rattle.config_text.specs.Faults.{NotUtf8At}
use Rattle.config_text.specs.Lines.{line_behind, line_number}
use Rattle.dep_tree.specs.Faults as trees
use Rattle.dep_tree.specs.declared.fault.TreeTextFault.{TreeTextFault}
use Rattle.dep_tree.specs.declared.fault.TreeTextFault.TheVariants as tree_faults
use Rattle.required_use.specs.Faults as expressions
use Rattle.required_use.specs.declared.fault.RequiredFault.{RequiredFault}
use Rattle.required_use.specs.declared.fault.RequiredFault.TheVariants as required_faults
use Rattle.pkg_state.specs.declared.class.Class.TheVariants.{Bdepend, Depend, Idepend, Pdepend, Rdepend}
use Rattle.pkg_state.specs.declared.eapi.Eapi.{Eapi as Edition}
use Rattle.vdb_contents.specs.Contents.{IsFaultyLine, lines}
use Rattle.vdb_law.specs.Fields.{Field, Reads, contents, eapi, flags, known, needs, required, slots}
use Rattle.vdb_law.specs.Packages.{Installed}
use Rattle.vdb_values.specs.Values as values
use Rattle.vdb_values.specs.Values.{SaysNoSlots}
use Rattle.vdb_values.specs.declared.fault.FlagFault.{FlagFault}
use Rattle.vdb_values.specs.declared.fault.FlagFault.TheVariants.{Word}
use Rattle.vdb_values.specs.declared.fault.FlagFault.TheVariants as flag_faults
use Rattle.vdb_record.specs.Texts.{IsOfEdition, Texts, text_for, value}
use Rattle.vdb_record.specs.Views.{field_of}
use Rattle.vdb_record.specs.declared.fault.RecordFault.{RecordFault}
use Rattle.vdb_record.specs.declared.fault.RecordFault.TheVariants.{Missing, Eapi, Text, Dep, Memory}
use Rattle.vdb_record.specs.declared.file.RecordFile.{RecordFile}

-- where the value begins: at the first byte that is no blank
abbrev pub value_start : List ℕ → ℕ
value_start text = unwrap_or (position (λ b. not (is_blank b)) text) 0

-- the line of the byte at this place
abbrev pub line_at : List ℕ → ℕ → ℕ
line_at text at = line_behind (take at text)

-- a word that is none of a flag is told by its line
abbrev pub flag_fault : RecordFile → List ℕ → FlagFault → RecordFault
flag_fault file text (Word at) = Text file (line_at text at)
flag_fault file text flag_faults.Memory = Memory

-- the place of a fault in the text; groups too deep have none of their own
abbrev pub tree_place : TreeTextFault → Option ℕ
tree_place (tree_faults.Atom at) = Some at
tree_place (tree_faults.Open at) = Some at
tree_place (tree_faults.Close at) = Some at
tree_place (tree_faults.NoSpace at) = Some at
tree_place (tree_faults.BlockInAnyOf at) = Some at
tree_place tree_faults.Depth = Some 0
tree_place tree_faults.Memory = None

abbrev pub required_place : RequiredFault → Option ℕ
required_place (required_faults.Item at) = Some at
required_place (required_faults.Open at) = Some at
required_place (required_faults.Close at) = Some at
required_place (required_faults.NoSpace at) = Some at
required_place required_faults.Depth = Some 0
required_place required_faults.Memory = None

-- a fault at this place is told by its place in the value; without a place memory ran out
abbrev pub dep_fault : RecordFile → List ℕ → Option ℕ → RecordFault
dep_fault file text None = Memory
dep_fault file text (Some at) = Dep file (at - value_start text)

-- the fault tells the line of the first byte of the file's text that isn't UTF-8
abbrev pub IsNotUtf8 : RecordFile → List ℕ → RecordFault → Type 0
IsNotUtf8 file text fault = (line : ℕ) × (fault ≡ Text file line) × NotUtf8At text line

-- the words of a text are no flags: the first that is none is in this line
abbrev pub IsFlagLine : Bool → List ℕ → ℕ → Type 0
IsFlagLine marked text line =
    (at : ℕ) × values.FirstFault marked text (Word at) × (line ≡ line_at text at)

-- the first fault of the text of a file is in this line
abbrev pub IsBadLine : Field → List ℕ → ℕ → Type 0
IsBadLine contents text line = (at : ℕ) × IsFaultyLine (lines text) at × (line ≡ line_number at)
IsBadLine eapi text line = ⊥
IsBadLine slots text line = NotUtf8At text line
    ⊎ (IsUtf8 text × SaysNoSlots text × (line ≡ line_at text (value_start text)))
IsBadLine flags text line = NotUtf8At text line ⊎ (IsUtf8 text × IsFlagLine false text line)
IsBadLine known text line = NotUtf8At text line ⊎ (IsUtf8 text × IsFlagLine true text line)
IsBadLine required text line = NotUtf8At text line
IsBadLine (needs class) text line = NotUtf8At text line

-- the place in a value of a fault at this place of its text
abbrev pub IsPlaced : List ℕ → Option ℕ → ℕ → Type 0
IsPlaced text place at = (from : ℕ) × (place ≡ Some from) × (at ≡ from - value_start text)

-- the first fault of the text of a file is at this place of its value
abbrev pub IsBadPlace : Field → List ℕ → ℕ → Type 0
IsBadPlace contents text at = ⊥
IsBadPlace eapi text at = ⊥
IsBadPlace slots text at = ⊥
IsBadPlace flags text at = ⊥
IsBadPlace known text at = ⊥
IsBadPlace required text at =
    IsUtf8 text × ((f : RequiredFault) × expressions.FirstFault text f
    × IsPlaced text (required_place f) at)
IsBadPlace (needs class) text at =
    IsUtf8 text × ((f : TreeTextFault) × trees.FirstFault text f × IsPlaced text (tree_place f) at)

-- the fault is the first of this file's text; memory may run out on any
abbrev pub IsFileFault : Field → List ℕ → RecordFault → Type 0
IsFileFault k text (Missing file) = ⊥
IsFileFault k text Eapi = ⊥
IsFileFault k text (Text file line) = (k ≡ field_of file) × IsBadLine k text line
IsFileFault k text (Dep file at) = (k ≡ field_of file) × IsBadPlace k text at
IsFileFault k text Memory = ⊤

-- in a record of the edition the text of a file says something of some package
abbrev pub IsGood : Edition → Field → List ℕ → Type 0
IsGood e k text = (p : Installed) × (p.package_is.eapi ≡ e) × Reads k text p

-- of these files the first that isn't good is bad
abbrev pub IsFirstBad : (Field → Type 0) → (Field → Type 0) → List Field → Type 0
IsFirstBad Good Bad [] = ⊥
IsFirstBad Good Bad (k ∷ ks) = Bad k ⊎ (Good k × IsFirstBad Good Bad ks)

-- the files that must be there, in the order in which they are looked for
abbrev pub needed : List Field
needed = contents ∷ eapi ∷ slots ∷ []

-- the other files than EAPI, in byte order of their names
abbrev pub files : List Field
files = needs Bdepend ∷ contents ∷ needs Depend ∷ needs Idepend ∷ known ∷ needs Pdepend
    ∷ needs Rdepend ∷ required ∷ slots ∷ flags ∷ []

-- the first of the files that must be there and isn't
abbrev pub IsFirstMissing : Texts → Field → Type 0
IsFirstMissing t k = IsFirstBad (λ j. IsSome (t j)) (λ j. (j ≡ k) × (t j ≡ None)) needed

abbrev pub AreThere : Texts → Type 0
AreThere t = IsSome (t contents) × (IsSome (t eapi) × IsSome (t slots))

-- the files that must be there are, or this is the first that isn't
abbrev pub IsMissing : Texts → Option RecordFile → Type 0
IsMissing t None = AreThere t
IsMissing t (Some file) = IsFirstMissing t (field_of file)

-- EAPI says an edition that is read
abbrev pub IsSupported : Texts → Type 0
IsSupported t = (e : Edition) × IsOfEdition t e

-- in a record of the edition the first of the texts of the files that isn't good has this fault
abbrev pub IsFirstOfFiles : Edition → Texts → RecordFault → Type 0
IsFirstOfFiles e t fault =
    IsFirstBad (λ k. IsGood e k (value (t k))) (λ k. IsFileFault k (text_for e t k) fault) files

-- the files that must be there are, and in the edition that EAPI says this is the first fault
abbrev pub IsOfFiles : Texts → RecordFault → Type 0
IsOfFiles t fault =
    AreThere t × ((e : Edition) × IsOfEdition t e × IsFirstOfFiles e t fault)

-- the first fault of the texts: a file that must be there, then EAPI, then the others
abbrev pub FirstFault : Texts → RecordFault → Type 0
FirstFault t (Missing file) = IsFirstMissing t (field_of file)
FirstFault t Eapi = AreThere t × ¬ IsSupported t
FirstFault t (Text file line) = IsOfFiles t (Text file line)
FirstFault t (Dep file at) = IsOfFiles t (Dep file at)
FirstFault t Memory = ⊤
