use Rattle.std.proofs.Common.{refl}
use Rattle.dep_group.specs.Tokens.{tree_words}
use Rattle.dep_group.proofs.WordLemmas.{words_of-spaced}
use Rattle.dep_tree.specs.Grammar.{grammar}
use Rattle.dep_tree.proofs.tree.printed_text_has_the_words.Goals as goal

pub returns : goal.returns
returns c = λ x form. record { atoms = (form, words_of-spaced (tree_words grammar x.groups) form.words); flag = refl }
