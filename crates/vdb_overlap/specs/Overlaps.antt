-- Which paths of a list are in each other's way.
use Rattle.std.specs.Prelude.{◌≡◌, ◌⊎◌, ℕ, true, false, List, [], ◌∷◌}
use Rattle.std.specs.declared.cmp.Ordering.TheVariants.{Less}
use Rattle.basics.specs.Members.{AreDistinct, Has}
use Rattle.pms_names.specs.Flags.{byte_order}
use Rattle.file_tree.specs.Paths.{is_below}
use Rattle.vdb_overlap.specs.declared.overlap.Overlap.{Overlap}
use Rattle.vdb_overlap.specs.declared.overlap.Overlap.TheVariants.{Nested, Twice}

-- the path stands at two places of the list
abbrev pub StandsTwice : List (List ℕ) → List ℕ → Type 0
StandsTwice [] q = ⊥
StandsTwice (p ∷ ps) q = ((p ≡ q) × Has ps q) ⊎ StandsTwice ps q

-- a path of the list that is below the other
pub record IsUnder (ps : List (List ℕ)) (q s : List ℕ) : Type 0 where
  pub listed : Has ps s
  pub below : is_below q s ≡ true

-- a path of the list with one below it
pub record IsOver (ps : List (List ℕ)) (q : List ℕ) : Type 0 where
  pub listed : Has ps q
  pub low : List ℕ
  pub under : IsUnder ps q low

-- of the paths that are so, this is the first in byte order
pub record IsFirst (P : List ℕ → Type 0) (q : List ℕ) : Type 0 where
  pub is : P q
  pub least : (s : List ℕ) → byte_order s q ≡ Less → ¬ P s

-- none of the paths stands twice, and none is above another
pub record AreApart (ps : List (List ℕ)) : Type 0 where
  pub once : AreDistinct ps
  pub flat : (q s : List ℕ) → Has ps q → Has ps s → is_below q s ≡ false

-- the first path that stands twice; where none does, the first with one below it, and the first of
-- those
abbrev pub IsFirstOverlap : List (List ℕ) → Overlap → Type 0
IsFirstOverlap ps (Twice q) = IsFirst (StandsTwice ps) q
IsFirstOverlap ps (Nested q s) =
    AreDistinct ps × IsFirst (IsOver ps) q × IsFirst (IsUnder ps q) s
