-- What a plan that was found looks like.
use Rattle.std.specs.Prelude.{◌≡◌, length}
use Rattle.std.specs.List.{AllZip}
use Rattle.plan_law.specs.Plans.{Group}
use Rattle.plan_text.specs.Plans.{GroupValue, plan_value}
use Rattle.plan_text.specs.Texts.{IsPlan}
use Rattle.emerge_choose.specs.declared.chosen.Chosen.{Chosen}

-- the group of the text has as many additions as that of the plan
abbrev pub HaveAsMany : GroupValue → Group → Type 0
HaveAsMany t g = length t.additions ≡ length g.additions

-- the text of what is found is that of a plan in form, hence of 4,096 groups at most, and group by
-- group it has as many additions as the plan
pub record IsInShape (chosen : Chosen) : Type 0 where
  pub form : IsPlan (plan_value chosen.text)
  pub alike : AllZip HaveAsMany (plan_value chosen.text) chosen.plan
