use Rattle.std.proofs.Common.{◌≡◌, drop}
use Rattle.std.specs.List.{list_any}
use Rattle.dep_atom.specs.Values.{atom_value}
use Rattle.emerge_choose.specs.Wishes.{is_match}
use Rattle.emerge_choose.proofs.serving.any_serves.Given as goal

abbrev pub invariant-loop-one : goal.invariant-loop-one
invariant-loop-one l = list_any (is_match (atom_value l.atom)) (drop l.one-index l.all) ≡ list_any (is_match (atom_value l.atom)) l.all
