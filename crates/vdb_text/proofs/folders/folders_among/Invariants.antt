-- The folders of the paths so far.
use Rattle.std.proofs.Common.{List, take, ℕ}
use Rattle.std.specs.Prelude.{◌↔◌}
use Rattle.basics.specs.Members.{Has}
use Rattle.vdb_text.specs.Folders.{IsAmong}
use Rattle.vdb_text.proofs.folders.folders_among.Given as goal

abbrev pub invariant-loop-path : goal.invariant-loop-path
invariant-loop-path l = (t : List ℕ) → Has l.folders.keys t ↔ IsAmong (take l.path-index l.listed) t
