-- A run that takes its turns one by one: where it stands between two, and how it ended.
use Rattle.std.specs.Prelude.{◌≡◌, ℕ, suc, Bool, List, map}
use Rattle.std.specs.Prelude.{Err, IfErr, OnOk, Result, length, take, ⊤}
use Rattle.basics.specs.Members.{Has}
use Rattle.file_tree.specs.Disk.{Map}
use Rattle.merge_core.specs.Roll.{resting}
use Rattle.merge_site.specs.Site.{SiteValue}
use Rattle.merge_group.specs.Applied.{number}
use Rattle.merge_group.specs.Causes.{IsOfGroup}
use Rattle.merge_group.specs.Lines.{AreTold}
use Rattle.file_tree.specs.Output.{IsBeginning}
use Rattle.merge_group.specs.Through.{HasEnded, IsThrough}
use Rattle.merge_group.specs.Turns.{StopsBehind, numbers}
use Rattle.merge_group.specs.Working.{standing_at}
use Rattle.merge_group.specs.declared.stop.Stop.{Stop}
use Rattle.merge_group.specs.declared.turn.Turn.{Turn}

-- the groups of just these turns are in the tree for good, in this order, and all of them are told
pub record IsUnderWay {T S : Type 0} (tells : Bool) (opening : Map) (turns : List Turn)
    (history acknowledged : List ℕ) (a : SiteValue T S) : Type 0 where
  pub through : IsThrough tells opening turns a
  pub count : length a.groups ≡ length a.keeping.standings
  pub merged : history ≡ numbers turns
  pub told : acknowledged ≡ numbers turns

-- the run has not begun the group of this turn
abbrev pub IsNew : List Turn → Turn → Type 0
IsNew turns t = ¬ Has (numbers turns) t.group

-- a run that began these turns ended so: its history is their first groups and the machine's order,
-- no group behind the next one has begun; of the history all groups are told or all but its last,
-- and all where a group was stopped for what it has; a stop is that of the group behind the history
pub record IsOver {A T S : Type 0} (tells : Bool) (opening : Map) (turns : List Turn)
    (history acknowledged : List ℕ) (end : Result A Stop) (a : SiteValue T S) : Type 0 where
  pub ended : HasEnded tells opening turns a end
  pub order : history ≡ map number a.keeping.order
  pub rest : (h : ℕ) → ¬ Has (take (suc (length history)) (numbers turns)) h →
      standing_at a h ≡ resting
  pub first : IsBeginning (numbers turns) history
  pub kept : AreTold history acknowledged
  pub all_told : IfErr end (λ e. IsOfGroup e → acknowledged ≡ history)
  pub merged : OnOk end (history ≡ numbers turns)
  pub told : OnOk end (acknowledged ≡ numbers turns)
  pub cause : IfErr end (StopsBehind tells opening a.opened_book a.groups turns (length history))

-- .. with this stop
abbrev pub EndsAt : {T S : Type 0} → Bool → Map → List Turn → List ℕ → List ℕ → SiteValue T S →
    Stop → Type 0
EndsAt tells opening turns history acknowledged a e =
    IsOver {A = ⊤} tells opening turns history acknowledged (Err e) a
