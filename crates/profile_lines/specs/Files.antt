-- The files of a profile: what each of them adds (PMS 5.2.4 to 5.2.11).
use Rattle.std.specs.Prelude.{◌≡◌, ◌⊎◌, ◌++◌, ℕ, List, [], ◌∷◌, Option, None, Some, codes, length}
use Rattle.config_text.specs.declared.assignment.Assignment.{Assignment}
use Rattle.file_tree.specs.Disk.{Map}
use Rattle.profile_folders.specs.Defaults.{AreDefaults, IsDefaultsFault}
use Rattle.profile_folders.specs.LineFiles.{AreLines, IsLinesFault}
use Rattle.profile_folders.specs.Places.{path_of}
use Rattle.profile_folders.specs.Texts.{file_in}
use Rattle.profile_folders.specs.declared.fault.ProfileFault.{ProfileFault}
use Rattle.profile_folders.specs.declared.line_file.FileLine.{FileLine}
use Rattle.profile_lines.specs.Chains.{BreaksAt, Chain}
use Rattle.profile_lines.specs.Faults.{FirstBad}
use Rattle.profile_lines.specs.Items.{AreEntries}
use Rattle.profile_lines.specs.Stacks.{with_entries}
use Rattle.profile_lines.specs.declared.fault.ReadFault.{ReadFault}
use Rattle.profile_lines.specs.declared.fault.ReadFault.TheVariants as faults
use Rattle.profile_lines.specs.declared.item.Entry.{Entry}
use Rattle.profile_lines.specs.declared.item.Form.{Form}
use Rattle.profile_lines.specs.declared.item.Form.TheVariants.{Flags, Rules}
use Rattle.profile_lines.specs.declared.item.Form.TheVariants as forms
use Rattle.profile_lines.specs.declared.item.Item.{Item}
use Rattle.profile_lines.specs.declared.file.File.{File}
use Rattle.profile_lines.specs.declared.file.File.TheVariants.{Masks, Uses, FlagMasks, FlagForces, RuleMasks, RuleForces}
use Rattle.profile_lines.specs.declared.profile.DefaultsFile.{DefaultsFile}
use Rattle.profile_lines.specs.declared.profile.Profile.{Profile}

-- what a profile says, as plain data
pub record Content : Type 0 where
  pub assigned : List Assignment
  pub files : List DefaultsFile
  pub masks : List Item
  pub uses : List Item
  pub hides : List Item
  pub forces : List Item

-- what the profile says
abbrev pub content : Profile → Content
content p =
    record {
      assigned = p.assigned.items;
      files = p.files.items;
      masks = p.masks.items;
      uses = p.uses.items;
      hides = p.hides.items;
      forces = p.forces.items;
    }

-- nothing
abbrev pub empty : Content
empty = record { assigned = []; files = []; masks = []; uses = []; hides = []; forces = [] }

-- the lines of the line file at the path; where there is no path there are none
abbrev pub AreLinesAt : Map → Option (List ℕ) → List FileLine → Type 0
AreLinesAt m None lines = lines ≡ []
AreLinesAt m (Some path) lines = AreLines m path lines

-- and the first fault of its text
abbrev pub IsLinesFaultAt : Map → Option (List ℕ) → ProfileFault → Type 0
IsLinesFaultAt m None fault = ⊥
IsLinesFaultAt m (Some path) fault = IsLinesFault m path fault

-- the line file at the path says these, line by line
pub record Tells (m : Map) (form : Form) (path : Option (List ℕ))
    (entries : List Entry) : Type 0 where
  pub lines : List FileLine
  pub there : AreLinesAt m path lines
  pub say : AreEntries form lines entries

-- the first fault of the line file: a byte that isn't UTF-8, or else a line that isn't in form
abbrev pub MissTells : Map → Form → Option (List ℕ) → ReadFault → Type 0
MissTells m form path fault =
    ((own : ProfileFault) × IsLinesFaultAt m path own × (fault ≡ faults.Profile own))
    ⊎ ((lines : List FileLine) × AreLinesAt m path lines × FirstBad form lines fault)

-- the line files of a profile in the order in which they are read
abbrev pub line_files : List File
line_files = Masks ∷ Uses ∷ FlagMasks ∷ FlagForces ∷ RuleMasks ∷ RuleForces ∷ []

-- the name of the file
abbrev pub file_name : File → List ℕ
file_name Masks = codes "package.mask"
file_name Uses = codes "package.use"
file_name FlagMasks = codes "use.mask"
file_name FlagForces = codes "use.force"
file_name RuleMasks = codes "package.use.mask"
file_name RuleForces = codes "package.use.force"

-- what its lines are
abbrev pub form_of : File → Form
form_of Masks = forms.Masks
form_of Uses = Rules
form_of FlagMasks = Flags
form_of FlagForces = Flags
form_of RuleMasks = Rules
form_of RuleForces = Rules

-- its path in the folder, if it has one
abbrev pub path_in : List ℕ → File → Option (List ℕ)
path_in folder file = path_of (file_in folder (file_name file))

-- what the profile says once the lines of the file count
abbrev pub counted : File → Content → List Entry → Content
counted Masks c lines = record c { masks = with_entries forms.Masks c.masks lines }
counted Uses c lines = record c { uses = with_entries Rules c.uses lines }
counted FlagMasks c lines = record c { hides = with_entries Flags c.hides lines }
counted FlagForces c lines = record c { forces = with_entries Flags c.forces lines }
counted RuleMasks c lines = record c { hides = with_entries Rules c.hides lines }
counted RuleForces c lines = record c { forces = with_entries Rules c.forces lines }

-- the file at the path, if there is one, with so many assignments
abbrev pub defaults_file : Option (List ℕ) → ℕ → List DefaultsFile
defaults_file None count = []
defaults_file (Some path) count = record { path = path; count = count } ∷ []

-- the path of the folder's file with variables, if it has one
abbrev pub defaults_path : List ℕ → Option (List ℕ)
defaults_path folder = path_of (file_in folder (codes "make.defaults"))

-- what the profile says once the file of the folder sets these variables
abbrev pub with_assigned : Content → List ℕ → List Assignment → Content
with_assigned c folder those =
    record c {
      assigned = c.assigned ++ those;
      files = c.files ++ defaults_file (defaults_path folder) (length those);
    }

-- the line file of the folder leads from what was said to what is
abbrev pub ReadsFile : Map → List ℕ → File → Content → Content → Type 0
ReadsFile m folder file was is =
    (lines : List Entry) × Tells m (form_of file) (path_in folder file) lines
    × (is ≡ counted file was lines)

-- or it has this fault
abbrev pub MissFile : Map → List ℕ → File → Content → ReadFault → Type 0
MissFile m folder file was fault = MissTells m (form_of file) (path_in folder file) fault

-- the line files of the folder lead from what was said to what is
abbrev pub ReadsFiles : Map → List ℕ → Content → Content → Type 0
ReadsFiles m folder was is = Chain (ReadsFile m folder) line_files was is

-- or the first of them that is at fault has this one
abbrev pub MissFiles : Map → List ℕ → Content → ReadFault → Type 0
MissFiles m folder was fault =
    BreaksAt (ReadsFile m folder) (MissFile m folder) line_files was fault

-- the profile in the folder leads from what was said to what is: first its variables count, then
-- its line files
abbrev pub ReadsFolder : Map → List ℕ → Content → Content → Type 0
ReadsFolder m folder was is =
    (those : List Assignment) × AreDefaults m folder was.assigned those
    × ReadsFiles m folder (with_assigned was folder those) is

-- or its first fault is this one
abbrev pub MissFolder : Map → List ℕ → Content → ReadFault → Type 0
MissFolder m folder was fault =
    ((own : ProfileFault) × IsDefaultsFault m folder own × (fault ≡ faults.Profile own))
    ⊎ ((those : List Assignment) × AreDefaults m folder was.assigned those
    × MissFiles m folder (with_assigned was folder those) fault)
