-- The groups that a refusal names: those that may come while a package is there, and that bring or
-- take away what its needs ask for or keep out.
use Rattle.std.specs.Prelude.{◌≡◌, ◌⊎◌, ℕ, ◌+◌, List, [], ◌∷◌}
use Rattle.dep_atom.specs.Values.{AtomValue}
use Rattle.pkg_state.specs.Consistent.{leaves_in}
use Rattle.pkg_state.specs.Package.{Package}
use Rattle.pkg_state.specs.declared.class.Class.TheVariants.{Rdepend}
use Rattle.plan_law.specs.Plans.{Group}
use Rattle.plan_law.specs.Lives.{IsAhead, IsPast, Life, Stretch, commit, stretch_of}
use Rattle.plan_lives.specs.Gathered.{gathered}
use Rattle.plan_lives.specs.Lives.{lives}

-- the package comes or goes with the group
abbrev pub IsOfGroup : ℕ → Life → Type 0
IsOfGroup g x = (x.birth ≡ commit g) ⊎ (x.death ≡ commit g)

-- one of these comes or goes with the group
abbrev pub HasOfGroup : List Life → ℕ → Type 0
HasOfGroup [] g = ⊥
HasOfGroup (x ∷ xs) g = IsOfGroup g x ⊎ HasOfGroup xs g

-- the group may come inside the stretch, and one of these comes or goes with it
pub record MayMeet (plan : List Group) (s : Stretch) (xs : List Life) (g : ℕ) : Type 0 where
  pub begun : ¬ IsPast plan s (commit g)
  pub lasts : ¬ IsAhead plan s (commit g)
  pub changes : HasOfGroup xs g

-- of the groups from a place on these are the numbers of those which have a property
abbrev pub AreNumbers : (ℕ → Type 0) → ℕ → List Group → List ℕ → Type 0
AreNumbers P g [] numbers = numbers ≡ []
AreNumbers P g (group ∷ rest) numbers =
    ((later : List ℕ) × P g × (numbers ≡ (g + 1) ∷ later) × AreNumbers P (g + 1) rest later)
    ⊎ ((¬ P g) × AreNumbers P (g + 1) rest numbers)

-- what the package needs while it runs, and keeps out then
abbrev pub runtime_leaves : Package → List AtomValue
runtime_leaves p = leaves_in Rdepend p

-- the lives of what these leaves match
abbrev pub those_matched : List Group → List Package → Package → List Life
those_matched plan start p = gathered (runtime_leaves p) p.facts.enabled (lives plan start)

-- the groups that a refusal of a package names, by their numbers
abbrev pub AreMeeting : List Group → List Package → Life → List ℕ → Type 0
AreMeeting plan start x numbers =
    AreNumbers (MayMeet plan (stretch_of x) (those_matched plan start x.package_is)) 0 plan numbers
