use Rattle.law_commit.proofs.Fair.{good_claims_suffice}
use Rattle.law_commit.proofs.laws.good_claims_suffice.Goals as goal

pub returns : goal.returns
returns c = good_claims_suffice (record {
  comes = c.one_name_and_version.ensures;
  spells = c.one_spelling.ensures;
  one = c.groups_keep_the_database.ensures.one;
  all = c.groups_keep_the_database.ensures.all;
  some = c.groups_keep_the_database.ensures.some;
  rise = c.open_groups_rise.ensures.rising;
})
