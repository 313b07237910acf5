-- Groups that are made of rows of places, as the code makes them.
use Rattle.std.specs.Prelude.{◌≡◌, ◌<◌, ℕ, List, [], get_or, length}
use Rattle.plan_law.specs.Plans.{Group, group_at}
use Rattle.merge_edges.specs.Changes.{Change as LineChange}
use Rattle.merge_groups.specs.Grouped.{Makes, before}

-- a group for each of so many rows, which makes the changes at its places and waits for those in
-- the other row
pub record AreGroups (cs : List LineChange) (rows afters : List (List ℕ)) (count : ℕ)
    (plan : List Group) : Type 0 where
  pub each : length plan ≡ count
  pub makes : (k : ℕ) → k < count → Makes cs (get_or rows k []) (group_at plan k)
  pub waits : (k : ℕ) → k < count → (group_at plan k).after ≡ get_or afters k []

-- so many rows, of which each has the place before its own
pub record AreWaiting (count : ℕ) (afters : List (List ℕ)) : Type 0 where
  pub each : length afters ≡ count
  pub row : (k : ℕ) → k < count → get_or afters k [] ≡ before k
