-- The lives of a plan over packages, as a list: first those of the packages at the beginning, and
-- then of each group those of its additions.
use Rattle.std.specs.Prelude.{ℕ, ◌+◌, List, [], ◌∷◌, ◌++◌, map, if◌then◌else◌}
use Rattle.pkg_state.specs.Package.{Package, line_of}
use Rattle.plan_law.specs.Plans.{Group, clears}
use Rattle.plan_law.specs.Lives as law
use Rattle.plan_lives.specs.declared.life.Life.{Life}
use Rattle.plan_lives.specs.declared.life.Moment.{Moment}
use Rattle.plan_lives.specs.declared.life.Moment.TheVariants.{Commit, Never, Opening}

-- the moment at which a line is cleared first, where these groups are left, from this place on
abbrev pub clearing : List Group → ℕ → List ℕ → law.Moment
clearing [] g line = law.never
clearing (group ∷ rest) g line =
    if clears group line then law.commit g else clearing rest (g + 1) line

-- the life of a package from a moment on, where these groups are left
abbrev pub life : law.Moment → List Group → ℕ → Package → law.Life
life birth rest g p =
    record { package_is = p; birth = birth; death = clearing rest g (line_of p.facts) }

-- the lives of what the groups bring, where these are left
abbrev pub lives_behind : List Group → ℕ → List law.Life
lives_behind [] g = []
lives_behind (group ∷ rest) g =
    map (life (law.commit g) rest (g + 1)) group.additions ++ lives_behind rest (g + 1)

abbrev pub lives : List Group → List Package → List law.Life
lives plan start = map (life law.opening plan 0) start ++ lives_behind plan 0

-- what the code's moments and lives say
abbrev pub moment_of : Moment → law.Moment
moment_of Opening = law.opening
moment_of (Commit g) = law.commit g
moment_of Never = law.never

abbrev pub life_of : Life → law.Life
life_of x =
    record { package_is = x.pkg.now; birth = moment_of x.birth; death = moment_of x.death }

abbrev pub lives_of : List Life → List law.Life
lives_of xs = map life_of xs
