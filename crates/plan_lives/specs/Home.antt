-- The packages that are there at a moment.
use Rattle.std.specs.Prelude.{◌≡◌, ◌↔◌, List}
use Rattle.basics.specs.Members.{Has}
use Rattle.pkg_state.specs.Package.{Package}
use Rattle.plan_law.specs.Plans.{Group}
use Rattle.plan_law.specs.Lives.{IsLife, Life, Moment, Precedes}

-- the package is there at the moment, where just what comes before that in each run has happened
pub record IsThereAt (plan : List Group) (m : Moment) (x : Life) : Type 0 where
  pub born : Precedes plan x.birth m
  pub alive : ¬ Precedes plan x.death m

-- the packages that are there then
abbrev pub AreThereAt : List Group → List Package → Moment → List Package → Type 0
AreThereAt plan start m ps =
    (p : Package) → Has ps p ↔
    ((x : Life) × IsLife plan start x × IsThereAt plan m x × (x.package_is ≡ p))
