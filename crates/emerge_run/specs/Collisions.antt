-- The collision that is told of one that the ownership book found: it names the package that owns.
use Rattle.std.specs.Prelude.{◌++◌, ℕ, List, Option, None, Some, map, slice_get}
use Rattle.dep_atom.specs.declared.package.PackageId.{PackageId}
use Rattle.pkg_state.specs.Package.{Package}
use Rattle.plan_law.specs.Plans.{Group}
use Rattle.vdb_law.specs.Packages.{Installed, id_of}
use Rattle.owner_book.specs.declared.fault.Collision as books
use Rattle.owner_book.specs.declared.fault.Collision.TheVariants as met
use Rattle.run_turns.specs.Plans.{coming}
use Rattle.merge_report.specs.declared.collision.Collision.TheVariants as collisions
use Rattle.merge_report.specs.declared.status.Status.{Status}
use Rattle.merge_report.specs.declared.status.Status.TheVariants as status

abbrev pub id_of_package : Package → PackageId
id_of_package p = p.facts.id

-- the packages that the keys of a run stand for, by their places: those that are installed, and
-- behind them those that come with the plan
abbrev pub ids_with : List Installed → List Group → List PackageId
ids_with ps plan = map id_of ps ++ map id_of_package (coming plan)

-- a path that the package at a place owns
abbrev pub owned_by : List ℕ → Option PackageId → Status
owned_by path None = status.Memory
owned_by path (Some id) = status.Collision (collisions.Owned path id)

-- a collision in the book, whose keys are the places of these packages
abbrev pub status_of_collision : List PackageId → books.Collision → Status
status_of_collision ids (met.Owned path key) = owned_by path (slice_get ids key.number)
status_of_collision ids (met.Claimed path group) =
    status.Collision (collisions.Claimed path group)
status_of_collision ids (met.Ancestor path other) =
    status.Collision (collisions.Ancestor path other)
status_of_collision ids (met.Unowned path) = status.Collision (collisions.Unowned path)
