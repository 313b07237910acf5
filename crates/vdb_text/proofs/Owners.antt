-- The package of a folder's text, and the folder of a path in a package's folder.
use Rattle.std.proofs.Common.{◌≡◌, ◌∙◌, ℕ, List, ◌∷◌, ◌++◌, drop, refl, ap, sym, subst, append_assoc}
use Rattle.std.specs.Prelude.{codes}
use Rattle.std.proofs.lemmas.List.{append_cancel_left}
use Rattle.dep_atom.specs.Ids.{IsId, id_text, name_and_version}
use Rattle.dep_atom.specs.declared.package.PackageId.{PackageId}
use Rattle.dep_atom.proofs.Cuts.{cut_once}
use Rattle.vdb_paths.specs.Files.{package_file_path}
use Rattle.vdb_paths.proofs.Packages.{package_file_path-parts}
use Rattle.vdb_law.specs.Database.{IsCounted, IsOf}
use Rattle.vdb_law.proofs.Places.{category_counts, lacks_from, version_counts}
use Rattle.vdb_text.specs.Folders.{folder_text}

-- a path is in one folder
pub one_folder : (q : List ℕ) (c d : IsCounted q) → (c.category ≡ d.category) × (c.pf ≡ d.pf)
one_folder q c d =
    let e = append_cancel_left (codes "var/db/pkg/") (c.category ++ (47 ∷ (c.pf ++ (47 ∷ c.name)))) (d.category ++ (47 ∷ (d.pf ++ (47 ∷ d.name)))) (sym c.is ∙ d.is) in
    let one = cut_once 47 47 c.category (47 ∷ (c.pf ++ (47 ∷ c.name))) d.category (47 ∷ (d.pf ++ (47 ∷ d.name))) (lacks_from c.category c.category-counts.part) (lacks_from d.category d.category-counts.part) refl refl e in
    let two = cut_once 47 47 c.pf (47 ∷ c.name) d.pf (47 ∷ d.name) (lacks_from c.pf c.pf-counts.part) (lacks_from d.pf d.pf-counts.part) refl refl (ap (drop 1) one.1) in
    (one.0, two.0)

-- each path of a package's folder is in one that counts
abbrev pub counted_in : (id : PackageId) (name : List ℕ) → IsId id → IsCounted (package_file_path id name)
counted_in id name is = record {
  category = id.name.category;
  pf = name_and_version id;
  name = name;
  is = package_file_path-parts id name;
  category-counts = category_counts id is;
  pf-counts = version_counts id is;
}

-- and that is the package's own
pub own_folder : (q : List ℕ) (c : IsCounted q) (id : PackageId) (name : List ℕ) → IsId id → q ≡ package_file_path id name → folder_text c.category c.pf ≡ id_text id
own_folder q c id name is e =
    let at : (x : IsCounted (package_file_path id name)) → folder_text x.category x.pf ≡ id_text id =
    λ x. (let one = one_folder (package_file_path id name) x (counted_in id name is) in ap (λ (t : List ℕ). folder_text t x.pf) one.0 ∙ ap (λ (t : List ℕ). folder_text id.name.category t) one.1) in
    subst (λ (p : List ℕ). (x : IsCounted p) → folder_text x.category x.pf ≡ id_text id) (sym e) at c

-- a path in the folder of a package's text is in the package's folder
pub in_folder : (q : List ℕ) (c : IsCounted q) (id : PackageId) → folder_text c.category c.pf ≡ id_text id → IsOf id q
unfolding package_file_path
in_folder q c id e = (c.name, c.is ∙ ap (λ (t : List ℕ). codes "var/db/pkg/" ++ t) (sym (append_assoc c.category (47 ∷ c.pf) (47 ∷ c.name)) ∙ ap (λ (t : List ℕ). t ++ (47 ∷ c.name)) e))
