-- The limits that several subjects share.
use Rattle.std.specs.Prelude.{ℕ}

-- the most groups of a plan
abbrev pub most_groups : ℕ
most_groups = 4096
