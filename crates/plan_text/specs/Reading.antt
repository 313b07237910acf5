-- What reading the words and the lines of a plan's text gives.
use Rattle.std.specs.Prelude.{◌≡◌, ◌==◌, ℕ, Bool, List, Option, option_map}
use Rattle.plan_text.specs.Lines.{IsLine, LineValue, head_text, line_of, line_text, said_words}
use Rattle.plan_text.specs.Spelled.{Reads}
use Rattle.plan_text.specs.declared.kind.Kind.{Kind}
use Rattle.plan_text.specs.declared.kind.Kind.TheVariants as kinds
use Rattle.plan_text.specs.declared.line.Line.{Line}
use Rattle.plan_text.specs.declared.line.Line.TheVariants as lines

-- no line begins with the word
abbrev pub IsNoHead : List ℕ → Type 0
IsNoHead word = (kind : Kind) → ¬ (word ≡ head_text kind)

-- a line as the code keeps it
abbrev pub line_value : Line → LineValue
line_value lines.Plan = line_of kinds.Plan tt
line_value (lines.Group n) = line_of kinds.Group n
line_value (lines.After ns) = line_of kinds.After ns.items
line_value (lines.Remove r) = line_of kinds.Remove r
line_value (lines.Add a) = line_of kinds.Add a
line_value (lines.Bind b) = line_of kinds.Bind b

-- a line of the kind
abbrev pub IsLineOf : Kind → LineValue → Type 0
IsLineOf kind l = (l.kind ≡ kind) × IsLine l

-- the words behind the head of a line
abbrev pub words_behind : LineValue → List (List ℕ)
words_behind l = said_words l.kind l.said

-- the words are said by a line of the kind, which is found, or by none
abbrev pub ReadsSaid : Kind → List (List ℕ) → Option Line → Type 0
ReadsSaid kind ws result =
    Reads (IsLineOf kind) words_behind ws (option_map line_value result)

-- the text is a line, which is found, or none
abbrev pub ReadsLine : List ℕ → Option Line → Type 0
ReadsLine text result = Reads IsLine line_text text (option_map line_value result)

abbrev pub is_space : ℕ → Bool
is_space b = b == 32

abbrev pub is_newline : ℕ → Bool
is_newline b = b == 10
