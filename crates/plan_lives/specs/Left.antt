-- The packages that are there at the end.
use Rattle.std.specs.Prelude.{Bool, true, false, List, filter, map}
use Rattle.pkg_state.specs.Package.{Package}
use Rattle.plan_law.specs.Plans.{Group}
use Rattle.plan_law.specs.Lives.{Life, Moment, commit, never, opening}
use Rattle.plan_lives.specs.Lives.{lives}

abbrev pub is_never : Moment → Bool
is_never opening = false
is_never (commit g) = false
is_never never = true

-- the packages that no group takes away
abbrev pub left_among : List Life → List Package
left_among xs = map (λ x. x.package_is) (filter (λ x. is_never x.death) xs)

abbrev pub left_of : List Group → List Package → List Package
left_of plan start = left_among (lives plan start)
