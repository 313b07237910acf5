-- Which paths go with packages.
use Rattle.std.specs.Prelude.{◌↔◌, ◌⊎◌, ℕ, List}
use Rattle.basics.specs.Members.{AreDistinct, Has}

-- those of the paths that aren't placed are there, too
pub record AddsFree (placed paths old new : List (List ℕ)) : Type 0 where
  pub members : (q : List ℕ) → Has new q ↔ (Has old q ⊎ (Has paths q × ¬ Has placed q))
  pub once : AreDistinct old → AreDistinct new
