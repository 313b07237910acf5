-- Plans of groups, and the packages that are there after some of them.
use Rattle.std.specs.Prelude.{◌<◌, ℕ, Bool, not, List, [], ◌∷◌, ◌++◌, bytes_eq, filter, get_or, length, ⊤}
use Rattle.std.specs.List.{list_any}
use Rattle.basics.specs.Members.{Has}
use Rattle.dep_atom.specs.declared.package.PackageId.{PackageId}
use Rattle.pkg_state.specs.Package.{Package, line_of, line_text}

-- a package that goes, with its slot
pub record Removal : Type 0 where
  pub id : PackageId
  pub slot : List ℕ

-- what a group takes away and brings, and which groups it waits for, by their places in the plan;
-- an addition is the package as it enters, its slot operators bound
pub record Group : Type 0 where
  pub after : List ℕ
  pub removals : List Removal
  pub additions : List Package

-- the line on which a removed package stands
abbrev pub removed_line : Removal → List ℕ
removed_line r = line_text r.id.name r.slot

abbrev pub no_group : Group
no_group = record { after = []; removals = []; additions = [] }

-- the group at a place of the plan, or one that does nothing
abbrev pub group_at : List Group → ℕ → Group
group_at plan g = get_or plan g no_group

-- the group takes away what stands on the line
abbrev pub clears : Group → List ℕ → Bool
clears g line = list_any (λ r. bytes_eq (removed_line r) line) g.removals

-- the packages after one group: those on its removed lines leave, then its additions enter
abbrev pub changed : Group → List Package → List Package
changed g ps = g.additions ++ filter (λ p. not (clears g (line_of p.facts))) ps

-- the packages after some groups, in this order
abbrev pub after : List Group → List Package → List ℕ → List Package
after plan ps [] = ps
after plan ps (g ∷ run) = after plan (changed (group_at plan g) ps) run

-- behind the groups that are done these come, each once and behind all that it waits for
abbrev pub GoesOn : List Group → List ℕ → List ℕ → Type 0
GoesOn plan done [] = ⊤
GoesOn plan done (g ∷ run) =
    (g < length plan) × (¬ Has done g)
    × ((h : ℕ) → Has (group_at plan g).after h → Has done h)
    × GoesOn plan (g ∷ done) run

-- an order in which groups of the plan may be committed, all of them or only some
abbrev pub IsRun : List Group → List ℕ → Type 0
IsRun plan run = GoesOn plan [] run

-- each group waits for earlier ones alone
abbrev pub WaitsForEarlier : List Group → Type 0
WaitsForEarlier plan = (g h : ℕ) → Has (group_at plan g).after h → h < g

-- one group reaches another: it is that one, or one that waits for it does
pub data Reaches (plan : List Group) (later : ℕ) : ℕ → Type 0 where
  itself : Reaches plan later later
  before : (g h : ℕ) → Has (group_at plan g).after h → Reaches plan later g → Reaches plan later h
