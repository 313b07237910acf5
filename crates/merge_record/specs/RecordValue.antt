-- What a record says, without where it lies in memory.
use Rattle.std.specs.Prelude.{ℕ, List}
use Rattle.merge_record.specs.declared.record.Placement.{Placement}

pub record RecordValue : Type 0 where
  pub group : ℕ
  pub removals : List (List ℕ)
  pub placements : List Placement
