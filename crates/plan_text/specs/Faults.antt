-- The first faulty line of a text, by the lines before it.
use Rattle.std.specs.Prelude.{◌≡◌, ◌≢◌, ◌≤◌, ◌+◌, ℕ, false, List, [], ◌∷◌, ◌++◌, length, min, ⊤}
use Rattle.std.specs.List.{slice_split}
use Rattle.plan_text.specs.Lines.{LineValue}
use Rattle.plan_text.specs.Progress.{AreRead, Stops}
use Rattle.plan_text.specs.Reading.{is_newline}
use Rattle.plan_text.specs.Standing.{ends, may_end, start}
use Rattle.basics.specs.Limits.{most_groups}
use Rattle.plan_text.specs.declared.fault.PlanTextFault.{PlanTextFault}
use Rattle.plan_text.specs.declared.fault.PlanTextFault.TheVariants as faults

-- the number of the line behind so many lines
abbrev pub line_number : ℕ → ℕ
line_number before = min (before + 1) 4294967295

-- the fault, behind so many groups, names this line; that of a group too many names none, and comes
-- only where there are as many as may be
abbrev pub Names : ℕ → ℕ → PlanTextFault → Type 0
Names groups n (faults.Number line) = line ≡ n
Names groups n (faults.NotBefore line) = line ≡ n
Names groups n faults.Limit = most_groups ≤ groups
Names groups n (faults.Line line) = line ≡ n
Names groups n faults.Memory = ⊤

-- the fault, behind so many groups, names the line behind so many
abbrev pub TellsLine : ℕ → ℕ → PlanTextFault → Type 0
TellsLine groups before fault = Names groups (line_number before) fault

-- the text's line behind the first n is its first faulty one, and behind so many groups: each line
-- before it is in form and may follow those before, and it is no line in form that may follow, or
-- the text ends there with bytes that no newline ends or where a plan doesn't end
pub record IsFaulty (text : List ℕ) (n groups : ℕ) : Type 0 where
  pub ls : List LineValue
  pub front : List (List ℕ)
  pub here : List ℕ
  pub rest : List (List ℕ)
  pub cut : slice_split is_newline text ≡ front ++ (here ∷ rest)
  pub number : length front ≡ n
  pub read : AreRead front ls
  pub begun : (ends start ls).groups ≡ groups
  pub inside : rest ≢ [] → Stops (ends start ls) here
  pub last : rest ≡ [] → here ≡ [] → may_end (ends start ls).place ≡ false
