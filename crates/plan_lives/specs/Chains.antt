-- Chains of lives of a list, as the code finds them.
use Rattle.std.specs.Prelude.{◌≡◌, ◌⊎◌, ◌+◌, List, length}
use Rattle.basics.specs.Members.{Has}
use Rattle.plan_law.specs.Plans.{Group}
use Rattle.plan_law.specs.Lives.{IsAhead, IsPast, Life, Moment, Precedes, Stretch}

-- lives of the list, one behind another from before the stretch on
pub data Arrives (plan : List Group) (fits : List Life) (s : Stretch) : Life → Type 0 where
  starts : (x : Life) → Has fits x → IsPast plan s x.birth → Arrives plan fits s x
  follows : (x y : Life) → Arrives plan fits s x → Has fits y → Precedes plan y.birth x.death →
      Arrives plan fits s y

-- such lives lead past the end of the stretch
pub record AreJoined (plan : List Group) (fits : List Life) (s : Stretch) : Type 0 where
  pub last : Life
  pub arrives : Arrives plan fits s last
  pub outlasts : IsAhead plan s last.death

-- those of `rest` that are born in time wait beside the old ones, and the others stay; those of
-- `todo` are not yet looked at
pub record AreParted
    (InTime : Moment → Type 0) (rest todo others old waiting : List Life) : Type 0 where
  pub apart : (z : Life) → Has others z → ¬ InTime z.birth
  pub whole : (z : Life) → Has rest z → Has others z ⊎ (Has waiting z ⊎ Has todo z)
  pub inside : (z : Life) → Has others z → Has rest z
  pub todo_inside : (z : Life) → Has todo z → Has rest z
  pub from : (z : Life) → Has waiting z → Has old z ⊎ (Has rest z × InTime z.birth)
  pub kept : (z : Life) → Has old z → Has waiting z
  pub count : length todo + length others + length waiting ≡ length rest + length old
