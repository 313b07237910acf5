-- The plan that stands in a file of a tree, and why none does.
use Rattle.std.specs.Prelude.{◌≡◌, ◌⊎◌, ◌≤◌, ℕ, List, Option, None, Some, ⊤}
use Rattle.std.specs.Str.{IsUtf8}
use Rattle.config_text.specs.Faults.{NotUtf8At}
use Rattle.vdb_law.specs.Fields.{text_of}
use Rattle.file_tree.specs.Disk.{Map}
use Rattle.plan_text.specs.Faults.{IsFaulty, line_number}
use Rattle.plan_text.specs.Plans.{GroupValue}
use Rattle.plan_text.specs.Texts.{IsPlan, plan_text}
use Rattle.basics.specs.Limits.{most_groups}
use Rattle.plan_text.specs.declared.fault.PlanTextFault.{PlanTextFault}
use Rattle.plan_text.specs.declared.fault.PlanTextFault.TheVariants as texts

-- the file at the path, plain or executable, has the text of these groups, which are in form
pub record HoldsPlan (m : Map) (path : List ℕ) (groups : List GroupValue) : Type 0 where
  pub form : IsPlan groups
  pub text : text_of (m path) ≡ Some (plan_text groups)

-- the text's line behind n others is its first faulty one, and stands behind so many groups
pub record StopsBehind (text : List ℕ) (n groups : ℕ) : Type 0 where
  pub utf8 : IsUtf8 text
  pub faulty : IsFaulty text n groups

-- the line is the first one with bytes that aren't UTF-8, or, where all are, the first faulty one
abbrev pub IsBadAt : List ℕ → ℕ → Type 0
IsBadAt text line =
    NotUtf8At text line ⊎ ((n groups : ℕ) × StopsBehind text n groups × (line ≡ line_number n))

-- there is no text, which has line 0, or it is bad at the line
abbrev pub FailsAt : Option (List ℕ) → ℕ → Type 0
FailsAt None line = line ≡ 0
FailsAt (Some text) line = IsBadAt text line

-- the text's first faulty line is that of a group too many
abbrev pub IsTooLong : Option (List ℕ) → Type 0
IsTooLong None = ⊥
IsTooLong (Some text) = (n groups : ℕ) × StopsBehind text n groups × (most_groups ≤ groups)

-- the fault is that of a file with this text, or with none; want of memory says nothing of it
abbrev pub IsRefusal : Option (List ℕ) → PlanTextFault → Type 0
IsRefusal text (texts.Number line) = FailsAt text line
IsRefusal text (texts.NotBefore line) = FailsAt text line
IsRefusal text texts.Limit = IsTooLong text
IsRefusal text (texts.Line line) = FailsAt text line
IsRefusal text texts.Memory = ⊤
