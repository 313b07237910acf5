use Rattle.std.proofs.Common.{◌∙◌, None, sym, refl, rules, inl, inr, arith}
use Rattle.std.specs.Option.{option_map}
use Rattle.std.proofs.lemmas.Result.{IfOk-weaker}
use Rattle.dep_atom.specs.Values.{atom_value}
use Rattle.plan_lives.proofs.Steps.{drop_end, trees_at}
use Rattle.plan_lives.proofs.firm.+leaf.Goals as goal

pub leaf_of_nodes-returns-then-not-branch : goal.leaf_of_nodes-returns-then-not-branch
leaf_of_nodes-returns-then-not-branch t c =
    IfOk-weaker c.leaf.result _ _ (λ found leaf. c.loop-node.invariant (option_map (λ atom. atom_value atom.now) found)
    (rw (trees_at c.args.nodes.now c.loop-node.node-index c.node-item.result (omega arith) c.node-item.is)
    (inl ((λ f. let k = c.in_ok-is_firm.ensures.1 f in let n = c.if-not-branch.true in cc (k, n)), leaf)))) c.leaf.ensures

pub leaf_of_nodes-loop-node-preserved : goal.leaf_of_nodes-loop-node-preserved
leaf_of_nodes-loop-node-preserved t c o rest =
    c.loop-node.invariant o
    (rw (trees_at c.args.nodes.now c.loop-node.node-index c.node-item.result (omega arith) c.node-item.is)
    (inr ((λ nf. nf (c.in_ok-is_firm.ensures.0 (let f = c.if-not-branch.false in search rules))), rest)))

pub leaf_of_nodes-returns : goal.leaf_of_nodes-returns
leaf_of_nodes-returns t c = c.loop-node.invariant None (rw (drop_end c.args.nodes.now c.loop-node.node-index (omega arith)) refl)

pub leaf_of_any-returns-then-is_member : goal.leaf_of_any-returns-then-is_member
leaf_of_any-returns-then-is_member t c =
    IfOk-weaker c.leaf.result _ _ (λ found leaf. c.loop-node.invariant (option_map (λ atom. atom_value atom.now) found)
    (rw (trees_at c.args.nodes.now c.loop-node.node-index c.node-item.result (omega arith) c.node-item.is)
    (inl (sym c.is_member.ensures ∙ c.if-is_member.true, leaf)))) c.leaf.ensures

pub leaf_of_any-returns : goal.leaf_of_any-returns
leaf_of_any-returns t c = c.loop-node.invariant None (rw (drop_end c.args.nodes.now c.loop-node.node-index (omega arith)) refl)
