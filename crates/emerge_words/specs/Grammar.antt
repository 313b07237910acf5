-- How a list of words is cut into flags, options and further words: by the rules of `clap`, for one
-- command without subcommands.
use Rattle.std.specs.Prelude.{◌≡◌, true, Some, List, [], codes}
use Rattle.clap.specs.Words.{App, Row, Rule, Text, fault_of, matches_of, new_app, new_rule, with_rule}
use Rattle.clap.specs.declared.builder.action.ArgAction.TheVariants.{Set, SetTrue, Append}

-- `--name`
abbrev pub flag_rule : Text → Rule
flag_rule name = record (new_rule name) { long = Some name; action = Some SetTrue }

-- `--name VALUE`
abbrev pub option_rule : Text → Rule
option_rule name = record (new_rule name) { long = Some name; action = Some Set }

-- words that are neither a flag nor an option, as many as there are
abbrev pub further_rule : Text → Rule
further_rule name = record (new_rule name) { action = Some Append }

-- a command without a word for the program's name, and without help and version
abbrev pub start_app : App
start_app =
    let app = new_app (codes "emerge") in
    record app {
      top = record app.top {
        no_binary_name = true;
        disable_help_flag = true;
        disable_version_flag = true;
      };
    }

-- the command with one flag more
abbrev pub with_flag : App → Text → App
with_flag app name = with_rule app (flag_rule name)

-- the command with one option more
abbrev pub with_option : App → Text → App
with_option app name = with_rule app (option_rule name)

-- the command with the flags
abbrev pub flags_app : App
flags_app = with_flag (with_flag (with_flag (with_flag (with_flag start_app
    (codes "pretend")) (codes "update")) (codes "repair")) (codes "keep-going")) (codes "unmerge")

-- and with the options that give a number
abbrev pub numbers_app : App
numbers_app = with_option (with_option (with_option (with_option flags_app
    (codes "jobs")) (codes "backtrack")) (codes "flag-changes")) (codes "load")

-- and with all other options
abbrev pub texts_app : App
texts_app = with_option (with_option (with_option (with_option numbers_app
    (codes "plan")) (codes "tree")) (codes "images")) (codes "build-with")

-- the command that all words are read by
unfoldable pub words_app : App
words_app = with_rule texts_app (further_rule (codes "further"))

-- each flag and option of the words is known and given at most once, and each option has its value
unfoldable pub AreCut : List Text → Type 0
AreCut words = fault_of words_app words ≡ []

-- the words as flags, options and further words
unfoldable pub rows_in : List Text → List Row
rows_in words = matches_of words_app words
