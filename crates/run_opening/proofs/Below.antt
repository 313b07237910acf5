-- Paths in the folders of packages.
use Rattle.std.proofs.Common.{◌≡◌, ◌∙◌, ℕ, List, ◌∷◌, ◌++◌, drop, refl, ap, sym}
use Rattle.std.specs.Prelude.{codes}
use Rattle.std.proofs.lemmas.List.{append_cancel_left}
use Rattle.dep_atom.specs.Ids.{IsId, id_text, name_and_version}
use Rattle.dep_atom.proofs.Cuts.{cut_once}
use Rattle.dep_atom.specs.declared.package.PackageId.{PackageId}
use Rattle.vdb_paths.specs.Files.{package_file_path}
use Rattle.vdb_paths.proofs.Packages.{package_file_path-parts}
use Rattle.vdb_law.proofs.Places.{category_counts, lacks_from, version_counts}

-- two packages whose folders have a path have one name and version
pub one_name : (a b : PackageId) (x y : List ℕ) → IsId a → IsId b → package_file_path a x ≡ package_file_path b y → id_text a ≡ id_text b
one_name a b x y is is' e =
    let behind = append_cancel_left (codes "var/db/pkg/") (a.name.category ++ (47 ∷ (name_and_version a ++ (47 ∷ x)))) (b.name.category ++ (47 ∷ (name_and_version b ++ (47 ∷ y)))) (sym (package_file_path-parts a x) ∙ (e ∙ package_file_path-parts b y)) in
    let one = cut_once 47 47 a.name.category (47 ∷ (name_and_version a ++ (47 ∷ x))) b.name.category (47 ∷ (name_and_version b ++ (47 ∷ y))) (lacks_from a.name.category (category_counts a is).part) (lacks_from b.name.category (category_counts b is').part) refl refl behind in
    let two = cut_once 47 47 (name_and_version a) (47 ∷ x) (name_and_version b) (47 ∷ y) (lacks_from (name_and_version a) (version_counts a is).part) (lacks_from (name_and_version b) (version_counts b is').part) refl refl (ap (drop 1) one.1) in
    ap (λ (t : List ℕ). t ++ (47 ∷ name_and_version a)) one.0 ∙ ap (λ (t : List ℕ). b.name.category ++ (47 ∷ t)) two.0
