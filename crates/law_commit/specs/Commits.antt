-- The groups of a plan as they are committed to a tree with a database.
use Rattle.std.specs.Prelude.{◌≡◌, ◌<◌, ℕ, List, length, map}
use Rattle.file_tree.specs.Disk.{Map}
use Rattle.merge_journal.specs.Group.{applied}
use Rattle.pkg_state.specs.Consistent.{AreConsistent}
use Rattle.pkg_state.specs.Package.{line_of}
use Rattle.vdb_law.specs.Database.{IsDatabase, IsKept}
use Rattle.vdb_law.specs.Packages.{Installed}
use Rattle.vdb_law.specs.Step.{AreSteps, Change, groups_of}
use Rattle.plan_law.specs.Accepted.{IsAccepted}
use Rattle.plan_law.specs.Plans.{Group, IsRun, WaitsForEarlier, clears, group_at}
use Rattle.law_commit.specs.Lit.{packages_of}

-- a change does to a database what the group says: those on its cleared lines leave, and its
-- additions come, with these flags on beside their own
pub record IsOf (flags : List (List ℕ)) (g : Group) (c : Change) : Type 0 where
  pub leaves : (p : Installed) → c.gone p ≡ clears g (line_of p.package_is.facts)
  pub comes : packages_of flags c.added ≡ g.additions

-- each group of the plan has a change of its own
abbrev pub AreOf : List (List ℕ) → List Group → (ℕ → Change) → Type 0
AreOf flags plan change =
    (g : ℕ) → g < length plan → IsOf flags (group_at plan g) (change g)

-- the map has this database, which it keeps, and whose packages are consistent with these flags on
pub record IsSoundTree (flags : List (List ℕ)) (m : Map) (ps : List Installed) : Type 0 where
  pub database : IsDatabase m ps
  pub kept : IsKept m ps
  pub consistent : AreConsistent (packages_of flags ps)

-- From a kept tree, and for an accepted plan over its packages: whichever groups are committed, in
-- whatever order that the plan allows, leave a sound tree. That the packages are consistent to
-- begin with is a part of acceptance.
abbrev pub CommitsLeaveSoundTrees : Type 0
CommitsLeaveSoundTrees =
    (flags : List (List ℕ)) (plan : List Group) (change : ℕ → Change) (m : Map)
    (ps qs : List Installed) (run : List ℕ) →
    WaitsForEarlier plan → IsAccepted plan (packages_of flags ps) → AreOf flags plan change →
    IsDatabase m ps → IsKept m ps → IsRun plan run → AreSteps (map change run) m ps qs →
    IsSoundTree flags (applied m (groups_of (map change run))) qs
