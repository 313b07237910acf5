-- The configuration of a tree as a whole: the profile, the user's files behind it, and what its
-- variables come to.
use Rattle.std.specs.Prelude.{◌≡◌, ◌⊎◌, ◌++◌, ℕ, Bool, List, [], ◌∷◌, Some, codes, drop, filter, is_some, length, map, take}
use Rattle.std.specs.List.{AllZip}
use Rattle.std.specs.Option.{option_map, option_map_or}
use Rattle.config_text.specs.declared.assignment.Assignment.{Assignment}
use Rattle.config_vars.specs.Values.{expanded, last_value, stacked}
use Rattle.config_vars.specs.declared.vars.FileVars.{FileVars}
use Rattle.dep_atom.specs.Values.{atom_value}
use Rattle.file_tree.specs.Disk.{Map}
use Rattle.profile_lines.specs.Files.{Content}
use Rattle.profile_lines.specs.Profiles.{IsProfile}
use Rattle.profile_lines.specs.Profiles as profiles
use Rattle.profile_lines.specs.declared.fault.ReadFault.{ReadFault}
use Rattle.profile_lines.specs.declared.item.Item.{Item}
use Rattle.profile_lines.specs.declared.profile.DefaultsFile.{DefaultsFile}
use Rattle.profile_stack.specs.Files.{Config, MissUser, ReadsUser, begun, configured, make_conf}
use Rattle.profile_stack.specs.declared.user_config.UserConfig.{UserConfig}
use Rattle.visible_rules.specs.Keywords.{KeywordRules}
use Rattle.visible_rules.specs.declared.line.KeywordLine.{KeywordLine}
use Rattle.visible_verdicts.specs.declared.rules.VisibleRules.{VisibleRules}
use Rattle.visible_offers.specs.Flags.{AreImplicit, FlagConfigValue}
use Rattle.visible_offers.specs.Words.{flag_words}
use Rattle.visible_offers.specs.declared.word.FlagWord.{FlagWord}

-- the path of the profile
abbrev pub profile_path : List ℕ
profile_path = codes "etc/portage/make.profile"

-- the profile and the user's files can be read, and say this
pub record IsRead (m : Map) (c : Config) : Type 0 where
  pub profile : Content
  pub is : IsProfile m profile_path profile
  pub user : ReadsUser m (begun profile) c

-- or their first fault is this one
abbrev pub MissRead : Map → ReadFault → Type 0
MissRead m fault =
    profiles.FirstFault m profile_path fault
    ⊎ ((profile : Content) × IsProfile m profile_path profile × MissUser m (begun profile) fault)

-- a file and what it sets, as plain data
pub record FileValue : Type 0 where
  pub path : List ℕ
  pub assigned : List Assignment

abbrev pub file_at : List ℕ → List Assignment → FileValue
file_at path assigned = record { path = path; assigned = assigned }

abbrev pub file_value : FileVars → FileValue
file_value f = file_at f.path f.assigned.items

-- these assignments, parted among the files
abbrev pub parted : List DefaultsFile → List Assignment → List FileValue
parted [] assigned = []
parted (file ∷ files) assigned =
    file_at file.path (take file.count assigned) ∷ parted files (drop file.count assigned)

-- what the user's file sets
abbrev pub conf_file : Config → FileValue
conf_file c = file_at make_conf c.conf

-- the files that set variables, in the order in which they are read: those of the profile, and then
-- the user's
abbrev pub files_of : Config → List FileValue
files_of c = parted c.files c.defaults ++ conf_file c ∷ []

-- what is configured, and the files that set variables
pub record Setup : Type 0 where
  pub config : Config
  pub files : List FileVars

abbrev pub setup_of : UserConfig → List FileVars → Setup
setup_of config files = record { config = configured config; files = files }

-- those of the profile, and the user's
abbrev pub profile_files : Setup → List FileVars
profile_files s = take (length s.config.files) s.files

abbrev pub user_files : Setup → List FileVars
user_files s = drop (length s.config.files) s.files

-- the configuration can be read, and is this
pub record IsSetup (m : Map) (s : Setup) : Type 0 where
  pub read : IsRead m s.config
  pub files : map file_value s.files ≡ files_of s.config

-- the keyword `~ARCH`, which a line of keywords without words has, where ARCH has a value
abbrev pub own_keyword : List FileVars → List (List ℕ)
own_keyword files =
    option_map_or (λ arch. (codes "~" ++ arch) ∷ []) (last_value (codes "ARCH") files) []

-- the item is one of keywords for some packages
abbrev pub is_for_some : Item → Bool
is_for_some item = is_some item.atom

-- and this is its line
pub record IsLineOf (item : Item) (line : KeywordLine) : Type 0 where
  pub atom : option_map atom_value item.atom ≡ Some (atom_value line.atom)
  pub words : line.words.items ≡ item.keywords.items

-- which keywords are accepted: those of ACCEPT_KEYWORDS, and what the lines say
pub record AreAccepted (s : Setup) (rules : KeywordRules) : Type 0 where
  pub standing : rules.standing ≡ stacked (codes "ACCEPT_KEYWORDS") s.files
  pub bare : rules.bare ≡ own_keyword s.files
  pub lines : AllZip IsLineOf (filter is_for_some s.config.keywords) rules.lines

-- what decides which candidates are visible
pub record DecidesVisible (s : Setup) (rules : VisibleRules) : Type 0 where
  pub masks : rules.masks ≡ s.config.masks
  pub unmasks : rules.unmasks ≡ s.config.unmasks
  pub keywords : AreAccepted s rules.keywords

-- what is said of flags, by these words of variables
abbrev pub flags_by : Config → List FlagWord → List FlagWord → List (List ℕ) → FlagConfigValue
flags_by c defaults conf implicit =
    record {
      defaults = defaults;
      profile_uses = c.profile_uses;
      conf = conf;
      uses = c.uses;
      forces = c.forces;
      masks = c.hides;
      implicit = implicit;
    }

-- the words of the variables of these files, where those are expanded that all files expand
abbrev pub words_of : Setup → List FileVars → List FlagWord
words_of s files = flag_words (expanded s.files) files

-- what is said of flags
pub record DecidesFlags (s : Setup) (flags : FlagConfigValue) : Type 0 where
  pub implicit : List (List ℕ)
  pub are : AreImplicit s.files implicit
  pub all : flags ≡
      flags_by s.config (words_of s (profile_files s)) (words_of s (user_files s)) implicit
