-- The atoms so far name the packages so far.
use Rattle.std.proofs.Common.{◌≡◌, map}
use Rattle.std.specs.List.{AllByRecursion}
use Rattle.dep_atom.specs.Atoms.{IsAtom}
use Rattle.dep_atom.specs.Text.{atom_text}
use Rattle.load_gen.specs.Loads.{name_of, numbers_below}
use Rattle.load_gen.proofs.atoms.load_atoms.Given as goal

abbrev pub invariant-loop-number : goal.invariant-loop-number
invariant-loop-number l =
    (map atom_text l.atoms.items ≡ map name_of (numbers_below l.number))
    × AllByRecursion IsAtom l.atoms.items
