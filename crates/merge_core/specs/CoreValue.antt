-- The machine as its code keeps it: the standings of some groups in a list, all others at rest.
use Rattle.std.specs.Prelude.{◌<◌, ◌≤◌, ◌^◌, ℕ, Bool, false, length, List, [], replicate}
use Rattle.std.specs.List.{sum_by}
use Rattle.merge_journal.specs.Group.{Group}
use Rattle.merge_core.specs.Core.{standing_in}
use Rattle.merge_core.specs.Roll.{Machine, Standing, resting, settled_behind, syncs_behind}

pub record CoreValue : Type 0 where
  pub standings : List Standing
  pub order : List Group
  pub syncs : ℕ
  pub stopped : Bool

-- the machine that is kept
abbrev pub machine_of : CoreValue → Machine
machine_of k = record {
  roll = record { standing = standing_in k.standings; order = k.order };
  syncs = k.syncs;
  stopped = k.stopped;
}

-- some groups, none of which has begun
abbrev pub at_rest : ℕ → CoreValue
at_rest n = record { standings = replicate n resting; order = []; syncs = 0; stopped = false }

-- the counts of syncs and of groups in the order are bounded by what the groups have behind them,
-- and the order has room for each group
pub record IsCounted (standings : List Standing) (synced settled most : ℕ) : Type 0 where
  pub groups : length standings < 2 ^ 32
  pub syncs : synced ≤ sum_by syncs_behind standings
  pub order : settled ≤ sum_by settled_behind standings
  pub room : length standings ≤ most
