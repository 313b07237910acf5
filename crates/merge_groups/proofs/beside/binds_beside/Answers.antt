use Rattle.std.proofs.Common.{◌≡◌, ◌∙◌, ℕ, List, ap, map, subst}
use Rattle.std.specs.List.{AllZip}
use Rattle.pms_names.specs.Flags.{has}
use Rattle.dep_atom.specs.Values.{AtomValue, atom_value}
use Rattle.pkg_state.specs.Package.{Package}
use Rattle.plan_lives.specs.Index.{plan_of, start_of}
use Rattle.plan_model.specs.Entering.{all_asking_leaves}
use Rattle.merge_groups.specs.Written.{IsBindOf}
use Rattle.merge_groups.proofs.beside.binds_beside.Goals as goal

pub returns : goal.returns
returns c =
    let p = c.args.pkg.now in
    let index = c.args.index.now in
    let R = IsBindOf (plan_of index) (start_of index) c.args.g p.facts.enabled in
    let leaves : map (λ leaf. atom_value leaf.now) c.deref.result.now ≡ all_asking_leaves (has p.facts.enabled) p.rdepend.groups = ap (map (λ leaf. atom_value leaf.now)) c.deref.ensures.value ∙ c.in_ok-leaves.ensures in
    let binds : AllZip R (map (λ leaf. atom_value leaf.now) c.deref.result.now) c.in_ok-binds.binds.items =
    subst (λ (fs : List (List ℕ)). AllZip (IsBindOf (plan_of index) (start_of index) c.args.g fs) (map (λ leaf. atom_value leaf.now) c.deref.result.now) c.in_ok-binds.binds.items)
    (ap (λ (q : Package). q.facts.enabled) c.pkg.view_is) c.in_ok-binds.ensures in
    subst (λ (l : List AtomValue). AllZip R l c.in_ok-binds.binds.items) leaves binds
