-- Which groups are under way, and which may begin.
use Rattle.std.specs.Prelude.{◌≡◌, ◌<◌, ℕ, Bool, true, false, List, Some, slice_get}
use Rattle.std.specs.List.{list_all}
use Rattle.merge_core.specs.CoreValue.{CoreValue, machine_of}
use Rattle.merge_core.specs.Phase.{Phase, Abandoned, Idle, Told}
use Rattle.merge_core.specs.Roll.{phase_at}
use Rattle.merge_site.specs.declared.group.SiteGroup.{SiteGroup}

-- how far a group has come
abbrev pub phase_in : CoreValue → ℕ → Phase
phase_in k g = phase_at (machine_of k).roll g

-- a group in this phase has begun and is neither told nor given up
abbrev pub is_under_way : Phase → Bool
is_under_way Idle = false
is_under_way Told = false
is_under_way Abandoned = false
is_under_way p = true

-- some group is under way
abbrev pub HasRunning : CoreValue → Type 0
HasRunning k = (g : ℕ) × (is_under_way (phase_in k g) ≡ true)

abbrev pub is_told : Phase → Bool
is_told Told = true
is_told p = false

-- each of these groups is told
abbrev pub are_told : CoreValue → List ℕ → Bool
are_told k groups = list_all (λ g. is_told (phase_in k g)) groups

-- the group hasn't begun, and each that it waits for is told
pub record IsReady (k : CoreValue) (groups : List SiteGroup) (g : ℕ) : Type 0 where
  pub group : SiteGroup
  pub there : slice_get groups g ≡ Some group
  pub rests : phase_in k g ≡ Idle
  pub told : are_told k group.after.items ≡ true

-- the lowest group that may begin
pub record IsFirstReady (k : CoreValue) (groups : List SiteGroup) (g : ℕ) : Type 0 where
  pub is : IsReady k groups g
  pub least : (h : ℕ) → h < g → ¬ IsReady k groups h
