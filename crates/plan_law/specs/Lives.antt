-- How long a package of a plan is there: from the group that brings it, or from the beginning, to
-- the group that takes it away, if there is one.
use Rattle.std.specs.Prelude.{◌≡◌, ◌<◌, ◌≤◌, ◌+◌, ℕ, true, List, ⊤}
use Rattle.basics.specs.Members.{Has}
use Rattle.pkg_state.specs.Package.{Package, line_of}
use Rattle.plan_law.specs.Plans.{Group, Reaches, clears, group_at}

pub data Moment : Type 0 where
  opening : Moment
  commit : ℕ → Moment
  never : Moment

-- one moment comes before another in each run: the beginning before all, and all before the end
abbrev pub Precedes : List Group → Moment → Moment → Type 0
Precedes plan opening m = ⊤
Precedes plan (commit g) opening = ⊥
Precedes plan (commit g) (commit h) = Reaches plan h g
Precedes plan (commit g) never = ⊤
Precedes plan never opening = ⊥
Precedes plan never (commit h) = ⊥
Precedes plan never never = ⊤

pub record Life : Type 0 where
  pub package_is : Package
  pub birth : Moment
  pub death : Moment

-- the package enters at this moment
abbrev pub Enters : List Group → List Package → Moment → Package → Type 0
Enters plan start opening p = Has start p
Enters plan start (commit g) p = Has (group_at plan g).additions p
Enters plan start never p = ⊥

-- the first group that may take away what enters at this moment
abbrev pub first_after : Moment → ℕ
first_after opening = 0
first_after (commit g) = g + 1
first_after never = 0

-- the line is cleared first at this moment, of the groups from a place on
abbrev pub IsCleared : List Group → ℕ → List ℕ → Moment → Type 0
IsCleared plan from line opening = ⊥
IsCleared plan from line (commit g) =
    (from ≤ g) × (clears (group_at plan g) line ≡ true)
    × ((h : ℕ) → from ≤ h → clears (group_at plan h) line ≡ true → g ≤ h)
IsCleared plan from line never = (h : ℕ) → from ≤ h → ¬ (clears (group_at plan h) line ≡ true)

-- a life of the plan over these packages
pub record IsLife (plan : List Group) (start : List Package) (x : Life) : Type 0 where
  pub enters : Enters plan start x.birth x.package_is
  pub leaves : IsCleared plan (first_after x.birth) (line_of x.package_is.facts) x.death

-- a stretch of each run: while a package is there, or while a group may come
pub data Stretch : Type 0 where
  while_there : (birth death : Moment) → Stretch
  until : ℕ → Stretch

-- what happens at the moment has happened before the stretch begins
abbrev pub IsPast : List Group → Stretch → Moment → Type 0
IsPast plan (while_there birth death) m = Precedes plan m birth
IsPast plan (until g) m = Precedes plan m (commit g) × (¬ (m ≡ commit g))

-- what happens at the moment doesn't happen before the stretch ends
abbrev pub IsAhead : List Group → Stretch → Moment → Type 0
IsAhead plan (while_there birth death) m = Precedes plan death m
IsAhead plan (until g) m = Precedes plan (commit g) m

-- the package may be there at some time of the stretch
pub record Meets (plan : List Group) (s : Stretch) (x : Life) : Type 0 where
  pub lives_on : ¬ IsPast plan s x.death
  pub has_come : ¬ IsAhead plan s x.birth

abbrev pub stretch_of : Life → Stretch
stretch_of x = while_there x.birth x.death

-- whether a moment is before a group, by their places in the plan
abbrev pub ComesBefore : Moment → ℕ → Type 0
ComesBefore opening g = ⊤
ComesBefore (commit h) g = h < g
ComesBefore never g = ⊥

-- the package is there just before the group, by their places in the plan
pub record StandsBefore (g : ℕ) (x : Life) : Type 0 where
  pub born : ComesBefore x.birth g
  pub alive : ¬ ComesBefore x.death g
