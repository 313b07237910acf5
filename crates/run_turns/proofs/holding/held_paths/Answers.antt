use Rattle.std.proofs.Common.{◌≡◌, ◌∙◌, ◌++◌, ◌∷◌, ◌+◌, ℕ, List, [], ap, arith, subst, sym, take}
use Rattle.std.specs.Prelude.{◌↔◌, string_bytes}
use Rattle.std.specs.BTreeSet.{contains_text}
use Rattle.std.proofs.lemmas.List.{take_more}
use Rattle.basics.specs.Members.{Has}
use Rattle.dep_atom.specs.Ids.{id_text}
use Rattle.dep_atom.specs.declared.package.PackageId.{PackageId}
use Rattle.file_tree.specs.Disk.{Map, Story}
use Rattle.vdb_law.specs.Database.{folder_name}
use Rattle.vdb_law.specs.Packages.{Installed, id_of}
use Rattle.vdb_law.specs.Step.{Owns}
use Rattle.run_turns.specs.Held.{HoldOwned, holding, holdings_of}
use Rattle.run_turns.specs.declared.held.Held.{Held}
use Rattle.run_turns.proofs.Remembered.{hold_more, hold_other, take_whole}
use Rattle.run_turns.proofs.holding.held_paths.Goals as goal
use Rattle.run_turns.proofs.holding.held_paths.Goals.{then-contains+in_ok-paths+in_ok-hold, else-contains}

pub loop-package-preserved : goal.loop-package-preserved
loop-package-preserved g c =
    let m : Map = (g.T.Tree.story c.args.tree.now).now.holds in
    let inv = c.loop-package.invariant in
    let ps = c.args.installed.now in
    let plan = c.args.plan.now in
    let i : ℕ = c.loop-package.package-index in
    let p : Installed = c.package-item.result in
    let old = holdings_of c.loop-package.held in
    let longer : take (i + 1) ps ≡ take i ps ++ p ∷ [] = take_more ps i p (omega (arith, c.loop-package-test.true)) ∙ ap (λ (r : Installed). take i ps ++ r ∷ []) (sym c.package-item.is) in
    let text : string_bytes c.in_ok-folder.folder ≡ folder_name p = c.in_ok-folder.ensures ∙ ap (λ (i : PackageId). id_text i) (ap id_of c.package.view_is) in
    let known = c.contains.ensures ∙ (ap (contains_text c.in_ok-named.named) (c.as_str.ensures.value ∙ text) ∙ c.in_ok-named.ensures (folder_name p)) in
    elim c.if-contains.branch [
      | then-contains+in_ok-paths+in_ok-hold w ↦ (
        (λ t.
            let same = ap (λ (s : Story). s.now.holds) (inv.1 t) in
            let paths : List (List ℕ) = w.in_ok-paths.paths.items in
            subst (λ (l : List Installed). HoldOwned m l plan (holdings_of c.if-contains.held)) (sym longer)
            (hold_more m plan (take i ps) p old (inv.0 t) paths (holdings_of c.if-contains.held)
            (λ q. subst (λ (y : Map). Has paths q ↔ Owns y p q) same (w.in_ok-paths.ensures.owned t q))
            (λ f. ap (λ (x : Held). holdings_of x f) w.held-is ∙ (w.in_ok-hold.ensures f ∙ ap (λ (b : List ℕ). holding b paths old f) text)))),
        (λ t. ap g.T.Tree.story w.tree-is ∙ (w.in_ok-paths.ensures.same t ∙ inv.1 t)),
        (let later = w.in_ok-paths.ensures.faults.later in let is = ap g.T.Tree.faults w.tree-is in omega (arith, later, inv.2, is)),
      )
      | else-contains w ↦ (
        (λ t.
            subst (λ (l : List Installed). HoldOwned m l plan (holdings_of c.if-contains.held)) (sym longer)
            (subst (λ (x : Held). HoldOwned m (take i ps ++ p ∷ []) plan (holdings_of x)) (sym w.held-is)
            (hold_other m plan (take i ps) p old (inv.0 t) (sym known ∙ w.if-contains.false)))),
        (λ t. ap g.T.Tree.story w.tree-is ∙ inv.1 t),
        (let is = ap g.T.Tree.faults w.tree-is in omega (arith, inv.2, is)),
      )
    ]

pub returns-clause-held : goal.returns-clause-held
returns-clause-held g c t =
    let m : Map = (g.T.Tree.story c.args.tree.now).now.holds in
    subst (λ (l : List Installed). HoldOwned m l c.args.plan.now (holdings_of c.loop-package.held)) (take_whole c.args.installed.now c.loop-package.package-index (omega (arith, c.loop-package-test.false)))
    (c.loop-package.invariant.0 t)
