-- Stretches of a run, and moments that name groups which are there.
use Rattle.std.specs.Prelude.{◌<◌, ℕ, List, ⊤}
use Rattle.basics.specs.Members.{Has}
use Rattle.plan_law.specs.Lives as law
use Rattle.plan_lives.specs.Lives.{moment_of}
use Rattle.plan_lives.specs.declared.stretch.Stretch.{Stretch}
use Rattle.plan_lives.specs.declared.stretch.Stretch.TheVariants.{Until, WhileThere}

-- what a stretch of the code says
abbrev pub stretch_value : Stretch → law.Stretch
stretch_value (WhileThere birth death) = law.while_there (moment_of birth) (moment_of death)
stretch_value (Until g) = law.until g

-- a group that is there, if the moment names one
abbrev pub IsWithin : ℕ → law.Moment → Type 0
IsWithin n law.opening = ⊤
IsWithin n (law.commit g) = g < n
IsWithin n law.never = ⊤

-- the moments of these lives name groups that are there
abbrev pub AreWithin : ℕ → List law.Life → Type 0
AreWithin n xs = (x : law.Life) → Has xs x → IsWithin n x.birth × IsWithin n x.death

abbrev pub IsStretchWithin : ℕ → law.Stretch → Type 0
IsStretchWithin n (law.while_there birth death) = IsWithin n birth × IsWithin n death
IsStretchWithin n (law.until g) = g < n
