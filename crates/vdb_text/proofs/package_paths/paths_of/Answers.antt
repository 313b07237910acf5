use Rattle.std.proofs.Common.{◌∙◌, ◌++◌, List, ℕ, ap, codes, map}
use Rattle.vdb_contents.specs.Contents.{path_of}
use Rattle.vdb_contents.specs.declared.owned.Owned.{Owned}
use Rattle.vdb_law.specs.Packages.{Installed, id_of}
use Rattle.dep_atom.specs.Ids.{id_text}
use Rattle.dep_atom.specs.declared.package.PackageId.{PackageId}
use Rattle.vdb_text.proofs.PackagePaths.{owned_paths}
use Rattle.vdb_text.proofs.package_paths.paths_of.Goals as goal

pub returns-clause-owned : goal.returns-clause-owned
returns-clause-owned g c t =
    let m = (g.T.Tree.story c.args.tree.now).now.holds in
    let listed : List (List ℕ) = c.in_ok-paths.paths.items in
    let id = ap id_of c.package.view_is in
    owned_paths m c.args.package.now c.in_ok-folder.folder listed c.add_recorded.new.paths.items
    (c.in_ok-folder.ensures ∙ ap (λ (i : PackageId). codes "var/db/pkg/" ++ id_text i) id) (c.in_ok-paths.ensures.answer t)
    (c.in_ok-add_recorded.ensures ∙ ap (λ (l : List Owned). listed ++ map path_of l) (c.deref.ensures.value ∙ ap (λ (p : Installed). p.owned) c.package.view_is))
