-- What words ask for, and why they ask for nothing.
use Rattle.std.specs.Prelude.{◌≡◌, ⊤, ℕ, Bool, true, false, if◌then◌else◌, List, [], Some, codes, is_some, option_map, unwrap_or, slice_get, string_bytes}
use Rattle.clap.specs.Words.{Text}
use Rattle.emerge_words.specs.Commands.{is_command, is_merge, kind_of, plan_path}
use Rattle.emerge_words.specs.Grammar.{AreCut}
use Rattle.emerge_words.specs.Lines.{LineValue, line_of}
use Rattle.emerge_words.specs.Named.{AreNamed, FirstNoAtom, atom_words, has_world}
use Rattle.emerge_words.specs.Numbers.{bad_numbers, number_or}
use Rattle.emerge_words.specs.declared.kind.Kind.TheVariants as kinds
use Rattle.emerge_words.specs.declared.request.Command.{Command}
use Rattle.emerge_words.specs.declared.request.Command.TheVariants.{Merge, PlanFile, Unmerge, Load}
use Rattle.emerge_words.specs.declared.request.Request.{Request}
use Rattle.emerge_words.specs.declared.request.WordFault.{WordFault}
use Rattle.emerge_words.specs.declared.request.WordFault.TheVariants.{Usage, BadAtom, BadNumber, Memory}

-- how many jobs a load uses
abbrev pub load_jobs : ℕ
load_jobs = 4

-- the words that shall be atoms: all further words, but for the world's word in a merge
abbrev pub words_of_atoms : LineValue → List (List ℕ)
words_of_atoms line = atom_words (is_merge line) line.further

-- the line says this of a merge
pub record SaysMerge (line : LineValue) (world update repair : Bool) (backtrack flips : ℕ) : Type 0
  where
    pub kind : kind_of line ≡ Some kinds.Merge
    pub world_named : world ≡ has_world line.further
    pub update_said : update ≡ line.update
    pub repair_said : repair ≡ line.repair
    pub backtrack_said : backtrack ≡ number_or 10000 line.backtrack
    pub flips_said : flips ≡ number_or 0 line.flag_changes

-- the line is this command
abbrev pub IsCommand : LineValue → Command → Type 0
IsCommand line (Merge atoms world update repair backtrack flips) =
    SaysMerge line world update repair backtrack flips × AreNamed (words_of_atoms line) atoms.items
IsCommand line (PlanFile path) =
    (kind_of line ≡ Some kinds.PlanFile) × (option_map plan_path line.plan ≡ Some path)
IsCommand line (Unmerge atoms) =
    (kind_of line ≡ Some kinds.Unmerge) × AreNamed (words_of_atoms line) atoms.items
IsCommand line (Load n) = (kind_of line ≡ Some kinds.Load) × (n ≡ number_or 0 line.load)

-- the line says this of how the command shall run
pub record SaysRun (line : LineValue) (r : Request) : Type 0 where
  pub pretend : r.pretend ≡ line.pretend
  pub jobs : r.jobs ≡ (if is_some line.load then load_jobs else number_or 1 line.jobs)
  pub keep_going : r.keep_going ≡ line.keep_going
  pub tree : string_bytes r.tree ≡ unwrap_or line.tree (codes "/")
  pub images : string_bytes r.images ≡ unwrap_or line.images (codes "/var/cache/portage/images")
  pub build_with : option_map string_bytes r.build_with ≡ line.build_with

-- the line asks for this
pub record IsAsked (line : LineValue) (r : Request) : Type 0 where
  pub is_good : is_command line ≡ true
  pub numbers : bad_numbers line ≡ []
  pub command : IsCommand line r.command
  pub run : SaysRun line r

-- the numbers are good, and this is the first word that should be an atom and is none
pub record HasBadAtom (line : LineValue) (word : List ℕ) : Type 0 where
  pub numbers : bad_numbers line ≡ []
  pub atom : FirstNoAtom (words_of_atoms line) word

-- why a line asks for nothing: it is no command, a number that is none, or else an atom
abbrev pub IsRefused : LineValue → WordFault → Type 0
IsRefused line Usage = is_command line ≡ false
IsRefused line (BadNumber word) =
    (is_command line ≡ true) × (slice_get (bad_numbers line) 0 ≡ Some (string_bytes word))
IsRefused line (BadAtom word) = (is_command line ≡ true) × HasBadAtom line (string_bytes word)
IsRefused line Memory = ⊤

-- the words are a command of some kind, but that its numbers and its atoms may be none
pub record AreCommand (words : List Text) : Type 0 where
  pub cut : AreCut words
  pub command : is_command (line_of words) ≡ true

-- the words ask for this
pub record IsRequest (words : List Text) (r : Request) : Type 0 where
  pub cut : AreCut words
  pub asked : IsAsked (line_of words) r

-- why words ask for nothing; of want of memory nothing is said
abbrev pub IsRefusal : List Text → WordFault → Type 0
IsRefusal words Usage = ¬ (AreCommand words)
IsRefusal words (BadNumber word) =
    AreCommand words × (slice_get (bad_numbers (line_of words)) 0 ≡ Some (string_bytes word))
IsRefusal words (BadAtom word) =
    AreCommand words × HasBadAtom (line_of words) (string_bytes word)
IsRefusal words Memory = ⊤

-- two refusals, none of them for want of memory, tell the same
abbrev pub SameTold : WordFault → WordFault → Type 0
SameTold Usage Usage = ⊤
SameTold (BadNumber a) (BadNumber b) = string_bytes a ≡ string_bytes b
SameTold (BadAtom a) (BadAtom b) = string_bytes a ≡ string_bytes b
SameTold Memory b = ⊤
SameTold a Memory = ⊤
SameTold a b = ⊥
