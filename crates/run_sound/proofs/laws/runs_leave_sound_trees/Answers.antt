use Rattle.run_sound.proofs.Soundly.{runs_sound}
use Rattle.run_sound.proofs.laws.runs_leave_sound_trees.Goals as goal

pub returns : goal.returns
returns c = runs_sound (record {
  read = c.records_are_read_back.ensures.sorted;
  own = c.records_are_read_back.ensures.inside;
  comes = c.one_name_and_version.ensures;
  spells = c.one_spelling.ensures;
  sound = c.accepted_plans_are_sound.ensures;
  told = c.granted_exchanges_leave_owned_trees.ensures.told;
  leave = c.granted_exchanges_leave_owned_trees.ensures.leave;
  keep = c.groups_keep_the_database.ensures.all;
}) c.owners_keep_their_keys.ensures
