use Rattle.std.proofs.Common.{◌≡◌, ◌∙◌, ◌↔◌, List, ℕ, Some, subst, IfOk, IsTrue, ap, sym, map}
use Rattle.dep_atom.specs.Values.{AtomValue, atom_value}
use Rattle.dep_tree.specs.View.{trees_view, view}
use Rattle.pms_names.specs.Flags.{has}
use Rattle.plan_law.specs.Firm.{HasFirm, HoldsEmpty, IsFirm, direct}
use Rattle.plan_lives.specs.Gathered.{Chained}
use Rattle.dep_group.specs.Trees.{Tree, group, leaf}
use Rattle.dep_group.specs.declared.token.Opener.{Opener}
use Rattle.dep_group.specs.declared.token.Opener.TheVariants as openers
use Rattle.dep_tree.specs.declared.tree.Node.{Node}
use Rattle.plan_lives.proofs.Steps.{any_of_firm, any_view, eq_iff, leaf_view}
use Rattle.plan_lives.proofs.Serving.{ok_iff}
use Rattle.plan_lives.proofs.firm.+firm.Goals as goal

pub is_any_firm-returns : goal.is_any_firm-returns
is_any_firm-returns t c =
    let C = Chained c.args.index.now c.args.stretch.now c.args.asker.now in
    let on = has c.args.asker.now in
    let nodes = c.args.nodes.now in
    let empty = c.args.empty_holds in
    let same : map (λ atom. atom_value atom.now) c.deref.result.now ≡ direct (trees_view nodes) = ap (map (λ atom. atom_value atom.now)) c.deref.ensures.value ∙ c.in_ok-atoms.ensures in
    let firm : ¬ HasFirm empty C on (trees_view nodes) = λ h. (let k = c.in_ok-has_firm.ensures.1 h in let f = c.if-branch.false in cc (k, f)) in
    let members : ¬ HoldsEmpty empty on (trees_view nodes) = λ h. (let k = c.holds_empty.ensures.1 h in let f = c.if-holds_empty.false in cc (k, f)) in
    ok_iff c.is_chained.result (any_of_firm (HasFirm empty C on (trees_view nodes)) (C (map (λ atom. atom_value atom.now) c.deref.result.now)) (C (direct (trees_view nodes))) (HoldsEmpty empty on (trees_view nodes)) firm members (eq_iff C _ _ same)) c.is_chained.ensures

pub is_firm-returns-in-Leaf : goal.is_firm-returns-in-Leaf
is_firm-returns-in-Leaf t c =
    let C = Chained c.args.index.now c.args.stretch.now c.args.asker.now in
    let e : view c.args.node.now ≡ leaf (atom_value c.in-Leaf.atom) = ap view c.in-Leaf.is ∙ leaf_view c.in-Leaf.atom in
    subst (λ (x : Tree (Opener (List ℕ)) AtomValue). IfOk c.is_leaf_firm.result (λ b. IsTrue b ↔ IsFirm c.args.empty_holds C (has c.args.asker.now) x)) (sym e) c.is_leaf_firm.ensures

pub is_firm-returns-in-AnyOf : goal.is_firm-returns-in-AnyOf
is_firm-returns-in-AnyOf t c =
    let C = Chained c.args.index.now c.args.stretch.now c.args.asker.now in
    let e : view c.args.node.now ≡ group (Some openers.AnyOf) (trees_view c.deref-in-AnyOf.result.now) =
    ap view c.in-AnyOf.is ∙ (any_view c.in-AnyOf.nodes ∙ ap (λ (ns : List Node). group (Some openers.AnyOf) (trees_view ns)) (sym c.deref-in-AnyOf.ensures.value)) in
    subst (λ (x : Tree (Opener (List ℕ)) AtomValue). IfOk c.is_any_firm.result (λ b. IsTrue b ↔ IsFirm c.args.empty_holds C (has c.args.asker.now) x)) (sym e) c.is_any_firm.ensures
