use Rattle.std.proofs.Common.{◌∙◌, ap, map, subst, sym}
use Rattle.std.specs.List.{AllByRecursion}
use Rattle.dep_atom.specs.Atoms.{IsAtom}
use Rattle.dep_atom.specs.Text.{atom_text}
use Rattle.load_gen.specs.Loads.{name_of}
use Rattle.basics.proofs.Each.{all-push}
use Rattle.load_gen.proofs.Numbers.{map_more}
use Rattle.load_gen.proofs.atoms.load_atoms.Goals as goal

pub loop-number-preserved : goal.loop-number-preserved
loop-number-preserved c =
    let atoms = c.loop-number.atoms.items in
    let atom = c.in_ok-atom_of.field-0 in
    let pushed = c.in_ok-push.ensures.items in (
      ap (map atom_text) pushed ∙ map_more atom_text name_of atoms atom c.loop-number.number c.loop-number.invariant.0 c.in_ok-atom_of.ensures.name,
      subst (AllByRecursion IsAtom) (sym pushed) (all-push IsAtom atoms atom c.loop-number.invariant.1 c.in_ok-atom_of.ensures.form),
    )
