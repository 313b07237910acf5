-- Which command a line is: by its flags, by its options, and by whether further words stand there.
use Rattle.std.specs.Prelude.{◌≡◌, ⊤, ℕ, Bool, true, false, ◌&&◌, ◌||◌, ◌==◌, not, if◌then◌else◌, List, [], ◌∷◌, length, Option, Some, None, is_some}
use Rattle.std.specs.Option.{option_map_or}
use Rattle.file_tree.specs.Paths.{is_path}
use Rattle.emerge_words.specs.Lines.{LineValue}
use Rattle.emerge_words.specs.declared.kind.Kind.{Kind}
use Rattle.emerge_words.specs.declared.kind.Kind.TheVariants as kinds
use Rattle.emerge_words.specs.declared.request.WordFault.{WordFault}
use Rattle.emerge_words.specs.declared.request.WordFault.TheVariants.{Usage, BadAtom, BadNumber, Memory}

-- no word is neither a flag nor an option
abbrev pub names_none : LineValue → Bool
names_none line = length line.further == 0

-- what goes with a merge alone
abbrev pub asks_of_merge : LineValue → Bool
asks_of_merge line =
    line.update || (line.repair || (is_some line.backtrack || is_some line.flag_changes))

-- what goes with all but the load
abbrev pub asks_of_run : LineValue → Bool
asks_of_run line = line.pretend || (line.keep_going || is_some line.jobs)

-- further words, or none with `--repair`
abbrev pub is_merge : LineValue → Bool
is_merge line = not line.unmerge && (not (is_some line.plan) && (not (is_some line.load)
    && (line.repair || not (names_none line))))

-- `--plan` without further words
abbrev pub is_plan_file : LineValue → Bool
is_plan_file line = not line.unmerge && (is_some line.plan && (not (is_some line.load)
    && (names_none line && not (asks_of_merge line))))

-- `--unmerge` with further words
abbrev pub is_unmerge : LineValue → Bool
is_unmerge line = line.unmerge && (not (is_some line.plan) && (not (is_some line.load)
    && (not (names_none line) && not (asks_of_merge line))))

-- `--load` without further words
abbrev pub is_load : LineValue → Bool
is_load line = not line.unmerge && (not (is_some line.plan) && (is_some line.load
    && (names_none line && (not (asks_of_merge line) && not (asks_of_run line)))))

-- which command the line is, if it is one
abbrev pub kind_of : LineValue → Option Kind
kind_of line = if is_merge line then Some kinds.Merge
    else (if is_plan_file line then Some kinds.PlanFile
    else (if is_unmerge line then Some kinds.Unmerge
    else (if is_load line then Some kinds.Load else None)))

-- the path of a plan, without the slash that may stand first
abbrev pub plan_path : List ℕ → List ℕ
plan_path [] = []
plan_path (b ∷ text) = if b == 47 then text else b ∷ text

-- where a plan is named, a path names it
abbrev pub has_plan_path : LineValue → Bool
has_plan_path line = option_map_or (λ text. is_path (plan_path text)) line.plan true

-- the line is a command, but that its numbers and its atoms may be none
abbrev pub is_command : LineValue → Bool
is_command line = is_some (kind_of line) && has_plan_path line

-- a plan is named by no path, or memory ran out
abbrev pub HasNoPath : LineValue → WordFault → Type 0
HasNoPath line Usage = has_plan_path line ≡ false
HasNoPath line (BadAtom word) = ⊥
HasNoPath line (BadNumber word) = ⊥
HasNoPath line Memory = ⊤
