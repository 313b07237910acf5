-- What the index knows of the paths that it was given.
use Rattle.std.specs.Prelude.{◌≡◌, ◌⊎◌, ◌↔◌, ℕ, true, List, Option, IfSome, MatchOption}
use Rattle.std.specs.declared.cmp.Ordering.TheVariants.{Less}
use Rattle.basics.specs.Members.{AreDistinct, Has}
use Rattle.pms_names.specs.Flags.{IsRising, byte_order}
use Rattle.file_tree.specs.Paths.{is_path}
use Rattle.vdb_overlap.specs.Overlaps.{IsFirst, StandsTwice}

-- the texts in byte order, and the first that was there already when it came
pub record PathIndexValue : Type 0 where
  pub texts : List (List ℕ)
  pub twice : Option (List ℕ)

-- all texts that it keeps are paths
pub record ArePaths (x : PathIndexValue) : Type 0 where
  pub each : (t : List ℕ) → Has x.texts t → is_path t ≡ true
  pub again : IfSome x.twice (λ t. is_path t ≡ true)

-- it is what was seen of these paths
pub record IsSeen (ps : List (List ℕ)) (x : PathIndexValue) : Type 0 where
  pub rising : IsRising x.texts
  pub members : (t : List ℕ) → Has x.texts t ↔ Has ps t
  pub twice : MatchOption x.twice (AreDistinct ps) (IsFirst (StandsTwice ps))

-- the text is the first of these two in byte order
pub record IsLesser (a b r : List ℕ) : Type 0 where
  pub one : (r ≡ a) ⊎ (r ≡ b)
  pub not_a : ¬ (byte_order a r ≡ Less)
  pub not_b : ¬ (byte_order b r ≡ Less)
