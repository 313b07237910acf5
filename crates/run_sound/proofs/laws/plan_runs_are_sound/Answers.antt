use Rattle.run_sound.proofs.Soundly.{plan_runs_sound}
use Rattle.run_sound.proofs.laws.plan_runs_are_sound.Goals as goal

pub returns : goal.returns
returns c = plan_runs_sound c.groups_keep_the_database.ensures.all c.runs_leave_sound_trees.ensures
