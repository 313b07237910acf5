use Rattle.law_commit.proofs.Whole.{commits_leave_sound_trees}
use Rattle.law_commit.proofs.laws.commits_leave_sound_trees.Goals as goal

pub returns : goal.returns
returns c = commits_leave_sound_trees c.groups_keep_the_database.ensures.all c.accepted_plans_are_sound.ensures
