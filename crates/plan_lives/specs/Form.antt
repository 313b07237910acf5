-- Plans in form: few groups, each of which waits for earlier ones alone.
use Rattle.std.specs.Prelude.{◌<◌, ◌≤◌, ℕ, List, length}
use Rattle.basics.specs.Members.{Has}
use Rattle.plan_law.specs.Plans.{Group, WaitsForEarlier}
use Rattle.basics.specs.Limits.{most_groups}

-- all of these are below
abbrev pub AreBelow : List ℕ → ℕ → Type 0
AreBelow after g = (h : ℕ) → Has after h → h < g

pub record IsPlanInForm (plan : List Group) : Type 0 where
  pub few : length plan ≤ most_groups
  pub earlier : WaitsForEarlier plan
