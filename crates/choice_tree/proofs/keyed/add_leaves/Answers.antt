use denote.Ref.{Bor}
use Rattle.std.proofs.Common.{◌∙◌, ℕ, List, ap, arith, bytes_eq}
use Rattle.dep_atom.specs.declared.atom.Atom.{Atom}
use Rattle.choice_tree.specs.Keys.{last_if, lines_at}
use Rattle.choice_tree.proofs.Under.{come_each}
use Rattle.choice_tree.proofs.keyed.add_leaves.Goals as goal

pub loop-leaf-preserved : goal.loop-leaf-preserved
loop-leaf-preserved c =
    let line = c.args.line in
    come_each line (λ (text : List ℕ) (a : Bor Atom). bytes_eq text a.now.name.«package») c.args.leaves.now c.loop-leaf.leaf-index c.leaf-item.result _ c.args.lists.now c.loop-leaf.lists c.add.new.lists (omega arith) c.leaf-item.is c.loop-leaf.invariant
    (λ text. c.in_ok-add.ensures text ∙ ap (λ (n : List ℕ). last_if (bytes_eq text n) line (lines_at c.loop-leaf.lists text)) c.text.ensures.text)
