use Rattle.std.proofs.Common.{◌≡◌, ◌⊎◌, List, ap, inl, inr, subst, sym, ℕ}
use Rattle.std.proofs.lemmas.Result.{IfErr-weaker, IfOk-weaker}
use Rattle.file_tree.specs.Disk.{Map, Story}
use Rattle.vdb_law.specs.Database.{IsDatabase}
use Rattle.vdb_text.specs.Faults.{IsFirstBadFolder, IsFirstOf}
use Rattle.vdb_text.specs.Folders.{AreFolders}
use Rattle.vdb_text.specs.Machine.{IsOfMachine}
use Rattle.vdb_text.specs.Telling.{AreAtPaths, TellAll}
use Rattle.vdb_text.proofs.Whole.{first_fault, is_database, tell_all}
use Rattle.vdb_text.proofs.database.read_folders.Goals as goal

pub returns-clause-found : goal.returns-clause-found
returns-clause-found g c t =
    let m : Map = (g.T.Tree.story c.args.tree.now).now.holds in
    let n : Map = (g.T.Tree.story c.list_folders.new.tree).now.holds in
    let same : n ≡ m = ap (λ (s : Story). s.now.holds) (c.list_folders.ensures.same t) in
    let texts : List (List ℕ) = c.deref.result.now in
    let are : AreFolders m texts = subst (AreFolders m) (sym c.deref.ensures.value) (c.in_ok-folders.ensures.folders t) in
    IfOk-weaker c.read_packages.result (λ v. TellAll n texts v.items) (λ v. IsDatabase m v.items)
    (λ v h. is_database m texts are v.items (subst (λ (y : Map). TellAll y texts v.items) same h)) (c.read_packages.ensures.found t)

pub returns-clause-only : goal.returns-clause-only
returns-clause-only g c t ps db =
    let m : Map = (g.T.Tree.story c.args.tree.now).now.holds in
    let n : Map = (g.T.Tree.story c.list_folders.new.tree).now.holds in
    let same : n ≡ m = ap (λ (s : Story). s.now.holds) (c.list_folders.ensures.same t) in
    let texts : List (List ℕ) = c.deref.result.now in
    let are : AreFolders m texts = subst (AreFolders m) (sym c.deref.ensures.value) (c.in_ok-folders.ensures.folders t) in
    c.read_packages.ensures.only t ps (subst (λ (y : Map). TellAll y texts ps) (sym same) (tell_all m texts are ps db))

pub returns-clause-fault : goal.returns-clause-fault
returns-clause-fault g c t =
    let m : Map = (g.T.Tree.story c.args.tree.now).now.holds in
    let n : Map = (g.T.Tree.story c.list_folders.new.tree).now.holds in
    let same : n ≡ m = ap (λ (s : Story). s.now.holds) (c.list_folders.ensures.same t) in
    let texts : List (List ℕ) = c.deref.result.now in
    let are : AreFolders m texts = subst (AreFolders m) (sym c.deref.ensures.value) (c.in_ok-folders.ensures.folders t) in
    IfErr-weaker c.read_packages.result (λ e. IsOfMachine e ⊎ IsFirstOf n texts e) (λ e. IsOfMachine e ⊎ IsFirstBadFolder m e)
    (λ e h. elim h [ inl machine ↦ inl machine | inr f ↦ inr (first_fault m texts are e (subst (λ (y : Map). IsFirstOf y texts e) same f)) ])
    (c.read_packages.ensures.fault t)

pub read_packages-requires : goal.read_packages-requires
read_packages-requires g c = subst AreAtPaths (sym c.deref.ensures.value) c.in_ok-folders.ensures.paths
