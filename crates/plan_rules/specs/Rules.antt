-- The rules of the check, in the order in which they are tried.
use Rattle.std.specs.Prelude.{◌≡◌, ◌⊎◌, ◌<◌, ℕ, ◌+◌, false, List, Option, None, Some}
use Rattle.std.specs.Ordering.{is_gt}
use Rattle.pkg_state.specs.Consistent.{AreConsistent}
use Rattle.pkg_state.specs.Fault as state
use Rattle.pkg_state.specs.Package.{Package, line_of}
use Rattle.plan_law.specs.Plans.{Group, Reaches, Removal, clears, group_at, removed_line}
use Rattle.plan_law.specs.Lives.{IsLife, Life, Meets, Moment, StandsBefore, commit, never, opening, stretch_of}
use Rattle.plan_law.specs.Accepted.{Changes}
use Rattle.plan_rules.specs.Order.{AreInOrder, each_by, number_of, package_key}
use Rattle.plan_rules.specs.Pairs.{Pair, pair_cmp}
use Rattle.plan_rules.specs.Refusals.{Refusal, Refusal as refused}
use Rattle.plan_rules.specs.Verdicts.{demand, each_from, refuse}

-- both groups change the line, and neither reaches the other
pub record AreUnordered (plan : List Group) (p : Pair) : Type 0 where
  pub below : p.lower < p.higher
  pub one : Changes plan p.lower p.line
  pub other : Changes plan p.higher p.line
  pub apart : ¬ (Reaches plan p.higher p.lower ⊎ Reaches plan p.lower p.higher)

-- .. and no such pair comes before this one
pub record IsFirstUnordered (plan : List Group) (p : Pair) : Type 0 where
  pub unordered : AreUnordered plan p
  pub first : (q : Pair) → AreUnordered plan q → is_gt (pair_cmp p q) ≡ false

-- of two groups that change one line one reaches the other
abbrev pub line_rule : List Group → Option Refusal → Type 0
line_rule plan None =
    (g h : ℕ) (line : List ℕ) → g < h → Changes plan g line → Changes plan h line →
    Reaches plan h g ⊎ Reaches plan g h
line_rule plan (Some e) =
    (p : Pair) × IsFirstUnordered plan p × (e ≡ refused.Line p.line (p.lower + 1) (p.higher + 1))

-- the life is of this version of a name, which is there just before the group
pub record IsTheOne (g : ℕ) (r : Removal) (x : Life) : Type 0 where
  pub stands : StandsBefore g x
  pub same : x.package_is.facts.id ≡ r.id

-- the package stands on its line just before the group
abbrev pub IsPresent : List Group → List Package → ℕ → Removal → Type 0
IsPresent plan start g r =
    (x : Life) × IsLife plan start x × StandsBefore g x
    × (x.package_is.facts.id ≡ r.id) × (line_of x.package_is.facts ≡ removed_line r)

abbrev pub present_of : List Group → List Package → ℕ → Removal → Option Refusal → Type 0
present_of plan start g r = demand (IsPresent plan start g r) (refused.Absent (g + 1) r.id)

-- .. of what goes with the group, in the order of lines
abbrev pub present_at : List Group → List Package → ℕ → Group → Option Refusal → Type 0
present_at plan start g group = each_by removed_line group.removals (present_of plan start g)

-- a package that goes stands on its line just before the group
abbrev pub present_rule : List Group → List Package → Option Refusal → Type 0
present_rule plan start = each_from 0 plan (present_at plan start)

-- the package stands on the line just before the group, and doesn't go with it
pub record Crowds (group : Group) (g : ℕ) (p : Package) (y : Life) : Type 0 where
  pub stands : StandsBefore g y
  pub twin : line_of y.package_is.facts ≡ line_of p.facts
  pub stays : clears group (line_of p.facts) ≡ false

-- the package is there just before the group, and it isn't the group that takes it away
pub record IsInTheWay (g : ℕ) (y : Life) : Type 0 where
  pub stands : StandsBefore g y
  pub stays : ¬ (y.death ≡ commit g)

-- they are of one version, on two lines, and may be there at one time
pub record AreOneVersion (plan : List Group) (x y : Life) : Type 0 where
  pub meets : Meets plan (stretch_of x) y
  pub same : x.package_is.facts.id ≡ y.package_is.facts.id
  pub apart : ¬ (line_of x.package_is.facts ≡ line_of y.package_is.facts)

-- .. where y is tried with x: what is there to begin with is tried with what is there then, too
pub record AreDouble (plan : List Group) (x y : Life) : Type 0 where
  pub double : AreOneVersion plan x y
  pub early : x.birth ≡ opening → y.birth ≡ opening

-- both come to one line with the group
pub record AreTwins (g : ℕ) (x y : Life) : Type 0 where
  pub comes : y.birth ≡ commit g
  pub twin : line_of y.package_is.facts ≡ line_of x.package_is.facts

-- y has the line of x, which comes then
abbrev pub HasLine : List Group → Life → Life → Moment → Type 0
HasLine plan x y opening = ⊥
HasLine plan x y (commit g) = Crowds (group_at plan g) g x.package_is y ⊎ AreTwins g x y
HasLine plan x y never = ⊥

-- y is in the way of x: it has the line of x, or is the same version on another line
abbrev pub Hinders : List Group → Life → Life → Type 0
Hinders plan x y = HasLine plan x y x.birth ⊎ AreDouble plan x y

-- nothing is in the way of the package at this place of the list
abbrev pub room_of : List Group → List Life → ℕ → Life → Option Refusal → Type 0
room_of plan all i x =
    each_from 0 all (λ j y. refuse ((¬ (j ≡ i)) × Hinders plan x y)
    (refused.Occupied (number_of x.birth) x.package_is.facts.id y.package_is.facts.id))

-- .. of any of the packages, which are in their order
abbrev pub room_rule : List Group → List Life → Option Refusal → Type 0
room_rule plan all = each_from 0 all (room_of plan all)

-- the packages are consistent to begin with, or what is first wrong by their lines is told
abbrev pub opening_rule : List Package → Option Refusal → Type 0
opening_rule start None = AreConsistent start
opening_rule start (Some e) =
    (ps : List Package) × AreInOrder package_key start ps
    × ((fault : state.Fault) × state.IsFirstFault ps fault × (e ≡ refused.Opening fault))
