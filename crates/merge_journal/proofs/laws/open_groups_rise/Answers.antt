use Rattle.merge_journal.proofs.Opened as opened
use Rattle.merge_journal.proofs.laws.open_groups_rise.Goals as goal

pub returns-clause-has : goal.returns-clause-has
returns-clause-has c = opened.open_groups_has

pub returns-clause-rising : goal.returns-clause-rising
returns-clause-rising c = opened.open_groups_rise

pub returns-clause-only : goal.returns-clause-only
returns-clause-only c = opened.open_groups_only
