-- The moments of lives name groups that are there.
use Rattle.std.proofs.Common.{ℕ, List, length}
use Rattle.pkg_state.specs.Package.{Package, line_of}
use Rattle.plan_law.specs.Plans.{Group}
use Rattle.plan_law.specs.Lives.{Enters, IsCleared, IsLife, Life, Moment, commit, first_after, never, opening}
use Rattle.plan_law.proofs.Cleared.{adding_is_there, clearing_is_there}
use Rattle.plan_lives.specs.Lives.{lives}
use Rattle.plan_lives.specs.Stretches.{AreWithin, IsWithin}
use Rattle.plan_lives.proofs.AllLives.{has_lives}

module _ (plan : List Group) (start : List Package) where
  birth_within : (p : Package) (b : Moment) → Enters plan start b p → IsWithin (length plan) b
  birth_within p opening e = tt
  birth_within p (commit g) e = adding_is_there plan g p e
  birth_within p never e = tt

  death_within : (line : List ℕ) (from : ℕ) (d : Moment) → IsCleared plan from line d → IsWithin (length plan) d
  death_within line from opening c = tt
  death_within line from (commit g) c = clearing_is_there plan g line c.1
  death_within line from never c = tt

  pub life_within : (x : Life) → IsLife plan start x → IsWithin (length plan) x.birth × IsWithin (length plan) x.death
  life_within x is = (birth_within x.package_is x.birth is.enters, death_within (line_of x.package_is.facts) (first_after x.birth) x.death is.leaves)

  pub lives_within : AreWithin (length plan) (lives plan start)
  lives_within x h = life_within x ((has_lives plan start x).0 h)
