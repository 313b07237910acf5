-- The user's files in `etc/portage`: what each of them adds to what the profile says.
use Rattle.std.specs.Prelude.{◌≡◌, ◌⊎◌, ◌&&◌, ◌++◌, ℕ, Bool, not, List, [], ◌∷◌, Some, codes, filter}
use Rattle.std.specs.List.{list_any}
use Rattle.config_text.specs.declared.assignment.Assignment.{Assignment}
use Rattle.file_tree.specs.Disk.{Map}
use Rattle.profile_folders.specs.Defaults.{AreSet, IsFaultOf}
use Rattle.profile_folders.specs.Texts.{text_of}
use Rattle.profile_folders.specs.declared.fault.ProfileFault.{ProfileFault}
use Rattle.profile_lines.specs.Chains.{BreaksAt, Chain}
use Rattle.profile_lines.specs.Files.{Content, MissTells, Tells}
use Rattle.profile_lines.specs.Stacks.{has_text, with_entries}
use Rattle.profile_lines.specs.declared.fault.ReadFault.{ReadFault}
use Rattle.profile_lines.specs.declared.fault.ReadFault.TheVariants as faults
use Rattle.profile_lines.specs.declared.item.Entry.{Entry}
use Rattle.profile_lines.specs.declared.item.Form.{Form}
use Rattle.profile_lines.specs.declared.item.Form.TheVariants as forms
use Rattle.profile_lines.specs.declared.item.Item.{Item}
use Rattle.profile_lines.specs.declared.profile.DefaultsFile.{DefaultsFile}
use Rattle.profile_stack.specs.declared.line_file.UserFile.{UserFile}
use Rattle.profile_stack.specs.declared.line_file.UserFile.TheVariants.{Keywords, Masks, Unmasks, Uses}
use Rattle.profile_stack.specs.declared.user_config.UserConfig.{UserConfig}

-- what is configured, as plain data
pub record Config : Type 0 where
  pub defaults : List Assignment
  pub files : List DefaultsFile
  pub conf : List Assignment
  pub profile_uses : List Item
  pub uses : List Item
  pub masks : List Item
  pub unmasks : List Item
  pub keywords : List Item
  pub hides : List Item
  pub forces : List Item

-- what the configuration says
abbrev pub configured : UserConfig → Config
configured c =
    record {
      defaults = c.defaults.items;
      files = c.files.items;
      conf = c.conf.items;
      profile_uses = c.profile_uses.items;
      uses = c.uses.items;
      masks = c.masks.items;
      unmasks = c.unmasks.items;
      keywords = c.keywords.items;
      hides = c.hides.items;
      forces = c.forces.items;
    }

-- what the profile says, before any of the user's files counts
abbrev pub begun : Content → Config
begun profile =
    record {
      defaults = profile.assigned;
      files = profile.files;
      conf = [];
      profile_uses = profile.uses;
      uses = [];
      masks = profile.masks;
      unmasks = [];
      keywords = [];
      hides = profile.hides;
      forces = profile.forces;
    }

-- the path of the file with the user's variables
abbrev pub make_conf : List ℕ
make_conf = codes "etc/portage/make.conf"

-- where these are known `make.conf` sets those
abbrev pub AreOfConf : Map → List Assignment → List Assignment → Type 0
AreOfConf m known those = AreSet (text_of (m make_conf)) known those

-- the first fault of `make.conf`
abbrev pub IsConfFault : Map → ProfileFault → Type 0
IsConfFault m fault = IsFaultOf make_conf (text_of (m make_conf)) fault

-- the user's line files in the order in which they are read
abbrev pub user_files : List UserFile
user_files = Uses ∷ Masks ∷ Unmasks ∷ Keywords ∷ []

-- where the file stands
abbrev pub path_of : UserFile → List ℕ
path_of Uses = codes "etc/portage/package.use"
path_of Masks = codes "etc/portage/package.mask"
path_of Unmasks = codes "etc/portage/package.unmask"
path_of Keywords = codes "etc/portage/package.accept_keywords"

-- what its lines are
abbrev pub form_of : UserFile → Form
form_of Uses = forms.Rules
form_of Masks = forms.Masks
form_of Unmasks = forms.Masks
form_of Keywords = forms.Keywords

-- one of the lines takes the item back
abbrev pub is_taken_back : List Entry → Item → Bool
is_taken_back lines item =
    list_any (λ line. line.takes_back && has_text line.item.text item) lines

-- the items that no line takes back
abbrev pub left_of : List Entry → List Item → List Item
left_of lines items = filter (λ item. not (is_taken_back lines item)) items

-- what is configured once the lines of the file count
abbrev pub counted : UserFile → Config → List Entry → Config
counted Uses c lines =
    record c {
      profile_uses = left_of lines c.profile_uses;
      uses = with_entries forms.Rules c.uses lines;
    }
counted Masks c lines = record c { masks = with_entries forms.Masks c.masks lines }
counted Unmasks c lines = record c { unmasks = with_entries forms.Masks c.unmasks lines }
counted Keywords c lines = record c { keywords = with_entries forms.Keywords c.keywords lines }

-- what is configured once `make.conf` sets these
abbrev pub with_conf : Config → List Assignment → Config
with_conf c those = record c { conf = c.conf ++ those }

-- the line file leads from what was configured to what is
abbrev pub ReadsFile : Map → UserFile → Config → Config → Type 0
ReadsFile m file was is =
    (lines : List Entry) × Tells m (form_of file) (Some (path_of file)) lines
    × (is ≡ counted file was lines)

-- or it has this fault
abbrev pub MissFile : Map → UserFile → Config → ReadFault → Type 0
MissFile m file was fault = MissTells m (form_of file) (Some (path_of file)) fault

-- the line files lead from what was configured to what is
abbrev pub ReadsFiles : Map → Config → Config → Type 0
ReadsFiles m was is = Chain (ReadsFile m) user_files was is

-- or the first of them that is at fault has this one
abbrev pub MissFiles : Map → Config → ReadFault → Type 0
MissFiles m was fault = BreaksAt (ReadsFile m) (MissFile m) user_files was fault

-- the user's files lead from what was configured to what is: first `make.conf` counts, and then the
-- line files
abbrev pub ReadsUser : Map → Config → Config → Type 0
ReadsUser m was is =
    (those : List Assignment) × AreOfConf m was.defaults those
    × ReadsFiles m (with_conf was those) is

-- or their first fault is this one
abbrev pub MissUser : Map → Config → ReadFault → Type 0
MissUser m was fault =
    ((own : ProfileFault) × IsConfFault m own × (fault ≡ faults.Profile own))
    ⊎ ((those : List Assignment) × AreOfConf m was.defaults those
    × MissFiles m (with_conf was those) fault)
