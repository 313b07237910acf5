-- The folders of listed paths, and the files in a package's folder, are at paths.
use Rattle.std.proofs.Common.{◌≡◌, ◌∙◌, ℕ, true, List, ◌∷◌, ◌++◌, ap, append_assoc, arith, subst, sym}
use Rattle.std.specs.Prelude.{codes}
use Rattle.std.specs.List.{AllByRecursion}
use Rattle.basics.specs.Members.{Has}
use Rattle.basics.proofs.Each.{all_has}
use Rattle.dep_atom.specs.Ids.{IsId, id_text}
use Rattle.dep_atom.specs.declared.package.PackageId.{PackageId}
use Rattle.file_tree.specs.Paths.{is_path}
use Rattle.vdb_paths.specs.Files.{package_file_path}
use Rattle.vdb_paths.proofs.Placed.{record_is_path}
use Rattle.vdb_law.specs.Database.{IsCounted}
use Rattle.vdb_law.specs.Fields.{Field, name_of}
use Rattle.vdb_law.proofs.FileNames.{name_is_file_name}
use Rattle.vdb_text.specs.Folders.{IsAmong, folder_text}
use Rattle.vdb_text.specs.Telling.{AreAtPaths, HasFilePaths, file_path, folder_path}
use Rattle.file_tree.proofs.Fronts.{front_is_path}

at_path : (id : PackageId) → IsId id → (k : Field) → is_path (file_path (id_text id) k) ≡ true
unfolding package_file_path
at_path id is k = record_is_path id (name_of k) is (name_is_file_name k)

pub file_paths : (id : PackageId) (text : List ℕ) → IsId id → text ≡ id_text id → HasFilePaths text
file_paths id text is named k = subst (λ (t : List ℕ). is_path (file_path t k) ≡ true) (sym named) (at_path id is k)

-- the folder of a path that counts is at a path
above_path : (path : List ℕ) → is_path path ≡ true → (c : IsCounted path) → is_path (folder_path (folder_text c.category c.pf)) ≡ true
above_path path is c =
    let front : List ℕ = folder_path (folder_text c.category c.pf) in
    let whole : path ≡ front ++ 47 ∷ c.name = c.is ∙ ap (λ (t : List ℕ). codes "var/db/pkg/" ++ t) (sym (append_assoc c.category (47 ∷ c.pf) (47 ∷ c.name))) in
    front_is_path front c.name (omega arith) (ap is_path (sym whole) ∙ is)

-- and so are those of listed paths
pub are_at_paths : (paths texts : List (List ℕ)) → AllByRecursion (λ p. is_path p ≡ true) paths → ((t : List ℕ) → Has texts t → IsAmong paths t) → AreAtPaths texts
are_at_paths paths texts all among t has =
    let a : IsAmong paths t = among t has in
    ap (λ (u : List ℕ). is_path (folder_path u)) a.is ∙ above_path a.path (all_has (λ p. is_path p ≡ true) paths a.path all a.listed) a.counted
