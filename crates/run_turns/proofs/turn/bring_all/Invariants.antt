use Rattle.std.proofs.Common.{◌≡◌, List, length, take, ℕ}
use Rattle.std.specs.List.{AllZip}
use Rattle.vdb_law.specs.Packages.{Installed}
use Rattle.pkg_state.specs.Package.{Package}
use Rattle.run_files.specs.Keys.{folders_with}
use Rattle.run_files.specs.Made.{AreFilesFor}
use Rattle.run_files.specs.Places.{ArePlaces}
use Rattle.run_turns.specs.Held.{holding_all, holdings_of}
use Rattle.run_turns.proofs.turn.bring_all.Given as goal

abbrev pub invariant-loop-newcomer : goal.invariant-loop-newcomer
invariant-loop-newcomer l =
    ((ps : List Installed) (coming : List Package) → ArePlaces (folders_with ps coming) l.places →
    AllZip (AreFilesFor ps coming) l.yielded l.all.items)
    × (length l.all.items ≡ length l.yielded)
    × ((q : List ℕ) → holdings_of l.held q ≡ holding_all l.yielded l.all.items (holdings_of l.fn.held) q)
    × (l.yielded ≡ take (length l.yielded) l.fn.newcomers.items)
