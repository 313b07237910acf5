use Rattle.std.proofs.Common.{◌∙◌, ap}
use Rattle.dep_atom.specs.Values.{AtomValue}
use Rattle.emerge_words.proofs.Named.{no_atom_told}
use Rattle.emerge_words.proofs.atoms.read_atom.Goals as goal

pub returns-in_default : goal.returns-in_default
returns-in_default c = record {
  text = tt;
  free = tt;
  fault = no_atom_told c.args.word.now c.bad_atom.result c.bad_atom.ensures
      (λ a form free e. c.in_default.not-No (ap (λ (v : AtomValue). v.block) (c.in-Ok.ensures.only a form e) ∙ free));
}
