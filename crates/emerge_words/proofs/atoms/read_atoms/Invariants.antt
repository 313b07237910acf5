use Rattle.std.proofs.Common.{◌≡◌, ◌++◌, drop, map}
use Rattle.std.specs.List.{AllByRecursion}
use Rattle.dep_atom.specs.Text.{atom_text}
use Rattle.emerge_words.specs.Named.{IsFree, atom_words}
use Rattle.emerge_words.proofs.atoms.read_atoms.Given as goal

abbrev pub invariant-loop-word : goal.invariant-loop-word
invariant-loop-word l =
    (atom_words l.may_name_world (map (λ s. s.now) l.words) ≡ map atom_text l.atoms.items ++ atom_words l.may_name_world (map (λ s. s.now) (drop l.word-index l.words)))
    × AllByRecursion IsFree l.atoms.items
