-- The first clearing of each line, as the code keeps it.
use Rattle.std.specs.Prelude.{◌≡◌, ℕ, List, Option, None, Some}
use Rattle.std.specs.BTreeMap.{is_at}
use Rattle.std.specs.Cmp.Lexicographic.{slice_cmp}
use Rattle.std.specs.Map.{lookup}
use Rattle.std.specs.Ordering.{nat_cmp}
use Rattle.plan_law.specs.Plans.{Group}
use Rattle.pkg_state.specs.Package.{Package, line_of}
use Rattle.plan_law.specs.Lives.{Life, Moment, commit, never}
use Rattle.plan_lives.specs.Lives.{clearing}

-- the place that stands at a line
abbrev pub place_at : List (List ℕ × ℕ) → List ℕ → Option ℕ
place_at places line = lookup (is_at (slice_cmp nat_cmp line)) places

-- the commit of the group at the place, or none
abbrev pub moment_at : Option ℕ → Moment
moment_at None = never
moment_at (Some g) = commit g

-- at each line stands the group that clears it first, where these groups are left
abbrev pub AreClearings : List Group → ℕ → List (List ℕ × ℕ) → Type 0
AreClearings rest g places =
    (line : List ℕ) → moment_at (place_at places line) ≡ clearing rest g line

-- the life of a package from a moment on, by the groups that stand at the lines
abbrev pub life_at : Moment → List (List ℕ × ℕ) → Package → Life
life_at birth places p =
    record { package_is = p; birth = birth; death = moment_at (place_at places (line_of p.facts)) }
