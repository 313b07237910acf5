-- Texts of groups whose words are in form.
use Rattle.std.specs.List.{AllByRecursion}
use Rattle.plan_text.specs.Plans.{GroupValue}
use Rattle.plan_text.specs.Texts.{IsAddition}
use Rattle.plan_text.specs.Words.{IsRemoval}

-- what its removals and its additions are made of is in form
pub record AreWords (t : GroupValue) : Type 0 where
  pub removals : AllByRecursion IsRemoval t.removals
  pub additions : AllByRecursion IsAddition t.additions
