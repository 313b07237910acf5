-- The stages of one group in the journal.
use Rattle.std.specs.Prelude.{ℕ, zero, suc, List, [], ◌∷◌}
use Rattle.merge_journal.specs.Names.{stage_path}

-- a group by its number, and how many stages it has
pub record StagePathsValue : Type 0 where
  pub group : ℕ
  pub count : ℕ

-- the stages of a group, so many from an index on
abbrev pub stages_from : ℕ → ℕ → ℕ → List (List ℕ)
stages_from g i zero = []
stages_from g i (suc n) = stage_path g i ∷ stages_from g (suc i) n
