use Rattle.dep_group.proofs.FormLemmas.{in_form, in_form-made}
use Rattle.dep_tree.specs.Grammar.{grammar, is_block}
use Rattle.dep_tree.proofs.AtomWords.{is_written}
use Rattle.dep_tree.proofs.tree.trees_in_form_are_atoms_in_groups.Goals as goal

pub returns : goal.returns
returns c = λ x. (λ form. record { made = in_form-made grammar is_block x form; low = form.low; free = form.free }, λ atoms. in_form grammar is_block is_written x atoms.made atoms.low atoms.free)
