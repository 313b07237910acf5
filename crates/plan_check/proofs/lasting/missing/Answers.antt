use Rattle.std.proofs.Common.{ℕ, List, ap, sym, subst}
use Rattle.std.specs.Option.{option_map}
use Rattle.std.proofs.lemmas.Result.{IfOk-weaker}
use Rattle.dep_atom.specs.Values.{atom_value}
use Rattle.dep_tree.specs.Texts.{Dependencies}
use Rattle.pkg_state.specs.Package.{Package, tree_of}
use Rattle.pms_names.specs.Flags.{has}
use Rattle.plan_law.specs.Firm.{IsChained, IsFirm}
use Rattle.plan_lives.specs.Index.{plan_of, start_of}
use Rattle.plan_lives.specs.Leaves.{IsLeafOfAll}
use Rattle.plan_lives.specs.Stretches.{stretch_value}
use Rattle.plan_check.specs.PackageRules.{IsMissing}
use Rattle.plan_check.proofs.lasting.missing.Goals as goal

pub returns : goal.returns
returns c =
    let plan = plan_of c.args.index.now in
    let start = start_of c.args.index.now in
    let s = stretch_value c.args.stretch in
    let p = c.args.pkg.now in
    let o = option_map (λ atom. atom_value atom.now) c.in_ok-found.found in
    let L : List (List ℕ) → Dependencies → Type 0 = λ asker x. IsLeafOfAll (λ t. ¬ IsFirm x.empty_holds (IsChained plan start asker s) (has asker) t) (has asker) x.groups o in
    let flags = ap (λ (q : Package). q.facts.enabled) c.pkg.view_is in
    let base = subst (λ (asker : List (List ℕ)). L asker (tree_of c.args.class p)) flags (subst (L _) c.tree.ensures c.in_ok-found.ensures) in
    IfOk-weaker c.copy_leaf.result _ _ (λ copy e. subst (IsMissing plan start s c.args.class p) (sym e) base) c.copy_leaf.ensures
