-- The package that a slot operator is bound to: the greatest that its leaf matches and that stands
-- beside the one that comes.
use Rattle.std.specs.Prelude.{◌≡◌, ◌⊎◌, List, [], ◌∷◌, ℕ, Option, None, Some, if◌then◌else◌, ⊤}
use Rattle.std.specs.Ordering.{is_gt, ordering_then}
use Rattle.std.specs.declared.cmp.Ordering.{Ordering}
use Rattle.pms_names.specs.Flags.{byte_order}
use Rattle.pms_version.specs.Order.{version_cmp}
use Rattle.dep_atom.specs.Values.{AtomValue}
use Rattle.dep_atom.specs.declared.slot.Bind.{Bind}
use Rattle.pkg_state.specs.Package.{Package}
use Rattle.plan_law.specs.Plans.{Group}
use Rattle.plan_law.specs.Lives.{Life, Moment, Precedes, commit}
use Rattle.plan_lives.specs.Gathered.{matching}
use Rattle.plan_lives.specs.Lives.{lives}

-- what happens at the moment happens behind the group in each run
abbrev pub ComesBehind : List Group → ℕ → Moment → Type 0
ComesBehind plan g m = Precedes plan (commit g) m × (¬ (m ≡ commit g))

-- the package stands beside what the group brings: it doesn't go with the group or before it, and
-- it doesn't come behind the group
pub record IsBeside (plan : List Group) (g : ℕ) (y : Life) : Type 0 where
  pub stays : ¬ Precedes plan y.death (commit g)
  pub comes : ¬ ComesBehind plan g y.birth

-- of two packages of one name the greater version is first, and of one version what is on the
-- smaller line, which is that of the smaller slot
abbrev pub rank : Package → Package → Ordering
rank p q =
    ordering_then (version_cmp q.facts.id.version p.facts.id.version)
    (byte_order p.facts.slot q.facts.slot)

-- the one of both that is first; where neither is, the one that was found before
abbrev pub greater : Option Package → Package → Package
greater None q = q
greater (Some p) q = if is_gt (rank p q) then q else p

-- the greatest of these that stands beside what the group brings, where `best` is the greatest of
-- those before them
abbrev pub IsGreatest : List Group → ℕ → Option Package → List Life → Option Package → Type 0
IsGreatest plan g best [] found = found ≡ best
IsGreatest plan g best (y ∷ ys) found =
    (IsBeside plan g y × IsGreatest plan g (Some (greater best y.package_is)) ys found)
    ⊎ ((¬ IsBeside plan g y) × IsGreatest plan g best ys found)

-- the bind names the slot and the subslot of the package; where there is none, any bind will do
abbrev pub IsSlotOf : Option Package → Bind → Type 0
IsSlotOf None b = ⊤
IsSlotOf (Some p) b = (b.slot ≡ p.facts.slot) × (b.subslot ≡ p.facts.subslot)

-- the bind is right for a leaf of what the group brings, for an asker with these flags
abbrev pub IsRightBind :
    List Group → List Package → ℕ → List (List ℕ) → AtomValue → Bind → Type 0
IsRightBind plan start g asker a b =
    (found : Option Package) × IsGreatest plan g None (matching a asker (lives plan start)) found
    × IsSlotOf found b
