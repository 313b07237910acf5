use Rattle.law_commit.proofs.Crashes.{crashes_recover_soundly, each_moment_recovers_soundly}
use Rattle.law_commit.proofs.laws.crashes_recover_soundly.Goals as goal

pub returns-clause-between : goal.returns-clause-between
returns-clause-between c = crashes_recover_soundly (record { rise = c.open_groups_rise.ensures.rising; commits = c.commits_leave_sound_trees.ensures; keeps = c.events_keep.ensures; follows = c.committed_is_run.ensures.keeps }) c.images_stand.ensures.stand

pub returns-clause-moments : goal.returns-clause-moments
returns-clause-moments c = each_moment_recovers_soundly (record { rise = c.open_groups_rise.ensures.rising; commits = c.commits_leave_sound_trees.ensures; keeps = c.events_keep.ensures; follows = c.committed_is_run.ensures.keeps }) c.runs_keep.ensures.begins c.committed_is_run.ensures.begins
