-- A text has one first fault.
use Rattle.std.proofs.Common.{◌≡◌, ℕ, List, ap, sym, ◌∙◌}
use Rattle.dep_group.proofs.TextLemmas as groups
use Rattle.dep_tree.proofs.AtomWords.{blocks_alike}
use Rattle.dep_tree.specs.declared.fault.TreeTextFault.{TreeTextFault}
use Rattle.dep_tree.specs.Faults.{HasFault, named}
use Rattle.dep_tree.specs.Grammar.{grammar, is_block}
use Rattle.dep_tree.specs.Texts.{AreDependencies}

-- one fault fits a text
pub once : (text : List ℕ) (a b : TreeTextFault) → HasFault text a → HasFault text b → a ≡ b
once text a b h k =
    let same = groups.once grammar is_block text blocks_alike h.0.0 k.0.0 h.0.1 k.0.1 (λ e. h.1 (h.0.2 ∙ ap named e)) (λ e. k.1 (k.0.2 ∙ ap named e)) in
    h.0.2 ∙ ap named same ∙ sym k.0.2

-- and none dependencies
pub none : (text : List ℕ) (a : TreeTextFault) → AreDependencies text → ¬ HasFault text a
none text a x h = h.1 (h.0.2 ∙ ap named (groups.none grammar is_block text blocks_alike h.0.0 x h.0.1))
