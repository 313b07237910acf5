use Rattle.std.proofs.Common.{◌≡◌, ◌∙◌, ◌++◌, ◌+◌, ◌∷◌, [], List, ap, arith, drop, inl, inr, subst, sym, take, ℕ}
use Rattle.std.proofs.lemmas.Result.{err_from_is_err_and}
use Rattle.basics.proofs.Membership.{has-at}
use Rattle.file_tree.specs.Disk.{Map, Story}
use Rattle.file_tree.specs.declared.fault.TreeFault.TheVariants as trees
use Rattle.vdb_law.specs.Packages.{Installed}
use Rattle.vdb_text.specs.Faults.{FolderFault}
use Rattle.vdb_text.specs.Telling.{Tells}
use Rattle.vdb_text.proofs.Steps.{GoesOn, next_at, split, tell_more, told}
use Rattle.vdb_text.proofs.database.read_packages.Goals as goal

pub returns-in_err-read_package-clause-only : goal.returns-in_err-read_package-clause-only
returns-in_err-read_package-clause-only g c t ps all =
    let m : Map = (g.T.Tree.story c.args.tree.now).now.holds in
    let inv = c.loop-folder.invariant in
    let same = ap (λ (s : Story). s.now.holds) (inv.2 t) in
    let x : List ℕ = c.folder-item.result in
    let q = err_from_is_err_and c.from_residual.result c.from_residual.ensures.1 in
    let next = next_at m c.args.folders.now c.loop-folder.folder-index x c.loop-folder-test.true c.folder-item.is c.loop-folder.packages.items ps (inv.1 t ps all) in
    rw (q.1, q.2) (c.in_err-read_package.ensures.only t next.0 (subst (λ (y : Map). Tells y x next.0) (sym same) next.1))

pub returns-in_err-read_package-clause-fault : goal.returns-in_err-read_package-clause-fault
returns-in_err-read_package-clause-fault g c t =
    let m : Map = (g.T.Tree.story c.args.tree.now).now.holds in
    let inv = c.loop-folder.invariant in
    let same = ap (λ (s : Story). s.now.holds) (inv.2 t) in
    let x : List ℕ = c.folder-item.result in
    let i : ℕ = c.loop-folder.folder-index in
    let folders : List (List ℕ) = c.args.folders.now in
    let e = c.in_err-read_package.field-0.0 in
    let q = err_from_is_err_and c.from_residual.result c.from_residual.ensures.1 in
    rw (q.1, q.2) (elim (c.in_err-read_package.ensures.fault t) [
      | inl machine ↦ inl machine
      | inr bad ↦ inr (record {
        front = take i folders;
        text = x;
        behind = drop (i + 1) folders;
        is = split m folders i x c.loop-folder-test.true c.folder-item.is;
        before = λ u has. (let f = told m (take i folders) c.loop-folder.packages.items (inv.0 t) u has in (f.0, f.2));
        has = subst (λ (y : Map). FolderFault y x e) same bad;
      })
    ])

pub loop-folder-preserved : goal.loop-folder-preserved
loop-folder-preserved g c =
    let m : Map = (g.T.Tree.story c.args.tree.now).now.holds in
    let inv = c.loop-folder.invariant in
    let x : List ℕ = c.folder-item.result in
    let i : ℕ = c.loop-folder.folder-index in
    let folders : List (List ℕ) = c.args.folders.now in
    let before : List Installed = c.loop-folder.packages.items in
    let r : Installed = c.in_ok-read_package.field-0 in
    let new : List Installed = c.push.new.self.items in
    let made : new ≡ before ++ r ∷ [] = c.in_ok-push.ensures.items in
    let lt = c.loop-folder-test.true in
    let at = c.folder-item.is in (
      λ t.
          let same = ap (λ (s : Story). s.now.holds) (inv.2 t) in
          tell_more m folders i x lt at before new r (inv.0 t) (subst (λ (y : Map). Tells y x r) same (c.in_ok-read_package.ensures.found t)) made,
      λ t ps all.
          let same = ap (λ (s : Story). s.now.holds) (inv.2 t) in
          let next = next_at m folders i x lt at before ps (inv.1 t ps all) in
          let one : r ≡ next.0 = c.in_ok-read_package.ensures.only t next.0 (subst (λ (y : Map). Tells y x next.0) (sym same) next.1) in
          subst (λ (l : List Installed). GoesOn m (drop (i + 1) folders) l ps) (sym (made ∙ ap (λ (p : Installed). before ++ p ∷ []) one)) next.2,
      λ t. c.in_ok-read_package.ensures.same t ∙ inv.2 t,
      omega (arith, c.in_ok-read_package.ensures.faults.later, inv.3),
    )

pub returns-in_err-push-clause-fault : goal.returns-in_err-push-clause-fault
returns-in_err-push-clause-fault g c t =
    let q = err_from_is_err_and c.from_residual-in_err-push.result c.from_residual-in_err-push.ensures.1 in
    rw q.1 (inl (trees.Memory, q.2))

pub read_package-requires : goal.read_package-requires
read_package-requires g c =
    let x : List ℕ = c.folder-item.result in
    c.requires x (has-at c.args.folders.now c.loop-folder.folder-index x c.loop-folder-test.true c.folder-item.is)
