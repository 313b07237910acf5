-- What reading the lines of a text gives.
use Rattle.std.specs.Prelude.{◌≡◌, ℕ, true, List, [], Option, MatchOption, length}
use Rattle.plan_text.specs.Drafts.{current_group, whole_groups}
use Rattle.plan_text.specs.Lines.{IsLine, line_text}
use Rattle.plan_text.specs.Progress.{AreStopped, IsReadTo, Stops}
use Rattle.plan_text.specs.Reading.{line_value}
use Rattle.plan_text.specs.Standing.{StandingValue, follows}
use Rattle.plan_text.specs.Faults.{TellsLine}
use Rattle.plan_text.specs.declared.fault.PlanTextFault.{PlanTextFault}
use Rattle.plan_text.specs.declared.line.Line.{Line}
use Rattle.plan_text.specs.declared.parse.Read.{Read}

-- the text is a line that may follow, or none
abbrev pub ReadsNext : StandingValue → List ℕ → Option Line → Type 0
ReadsNext s text result =
    MatchOption result (Stops s text)
    (λ l. (IsLine (line_value l) × (text ≡ line_text (line_value l)))
    × (follows s (line_value l) ≡ true))

-- all texts have been read
pub record AreAllRead (texts : List (List ℕ)) (r : Read) : Type 0 where
  pub stands : StandingValue
  pub to : IsReadTo texts [] (length texts) stands (whole_groups r.draft) (current_group r.draft)
  pub groups : stands.groups ≡ r.groups
  pub place : stands.place ≡ r.place

-- one of the texts is no line that may follow those before it, and the fault tells its number
abbrev pub StopsAtFault : List (List ℕ) → PlanTextFault → Type 0
StopsAtFault texts fault =
    (here : List ℕ) × (rest : List (List ℕ)) × (n : ℕ) × (s : StandingValue)
    × AreStopped texts here rest n s × TellsLine s.groups n fault
