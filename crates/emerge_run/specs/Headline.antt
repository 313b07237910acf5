-- What a run leaves of a disk whose packages go together: such a disk.
use Rattle.std.specs.Prelude.{◌≡◌, ◌⊎◌, ℕ, List, [], Option, Some}
use Rattle.pms_names.specs.Flags.{IsRising, has}
use Rattle.file_tree.specs.Disk.{Map, Story}
use Rattle.file_tree.specs.Moments.{Leaves, Since}
use Rattle.plan_law.specs.Plans.{Group}
use Rattle.vdb_law.specs.Packages.{Installed}
use Rattle.visible_offers.specs.declared.candidate.Candidate.{Candidate}
use Rattle.visible_set.specs.Offers.{AreOffers}
use Rattle.visible_set.specs.declared.offers.Hidden.{Hidden}
use Rattle.run_sound.specs.Ends.{EndsSoundly}
use Rattle.run_sound.specs.Sound.{StaysSound}
use Rattle.emerge_run.specs.Outcomes.{IsOfTree, IsWantedPlan}
use Rattle.merge_report.specs.declared.status.Status.{Status}

-- these are, in byte order, the flags that are on for every package by what the map offers
pub record TurnsOn (m : Map) (flags : List (List ℕ)) : Type 0 where
  pub rising : IsRising flags
  pub are : (flips : ℕ) (implicit : List (List ℕ)) (candidates : List Candidate)
      (hidden : List Hidden) → AreOffers m flips implicit candidates hidden →
      (flag : List ℕ) → has implicit flag ≡ has flags flag

-- There is one plan: the one that came back, which is found for the words in this map over these
-- packages; where nothing is merged, one without groups. Each crash image of each moment recovers
-- to a sound tree, with the packages after a run of that plan: each group of it once, and behind
-- all that it waits for. At the end all groups of the history are in it. A run that tells how it
-- went leaves a disk that runs begin with, with the packages after a run that is the history.
pub record Headline (words flags : List (List ℕ)) (m : Map) (ps : List Installed)
    (back : Option (List Group)) (old new : Story) (history : List ℕ) (s : Status) : Type 0 where
  pub plan : List Group
  pub found : (plan ≡ []) ⊎ ((back ≡ Some plan) × IsWantedPlan words m ps plan)
  pub moments : Since (StaysSound flags ps plan []) old new
  pub crash : Leaves (StaysSound flags ps plan history) new.now
  pub tree : IsOfTree s → EndsSoundly flags ps plan history new.now
