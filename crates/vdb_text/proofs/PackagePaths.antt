-- What a package owns, by what is listed below its folder.
use Rattle.std.proofs.Common.{◌≡◌, ◌∙◌, ℕ, true, List, ◌∷◌, ◌++◌, inl, inr, sym, subst, append_assoc}
use Rattle.std.specs.Prelude.{◌↔◌, codes}
use Rattle.basics.specs.Members.{Has}
use Rattle.basics.proofs.Membership.{contains-from_has, has-append_cases, has-append_left, has-append_right, has-from_contains}
use Rattle.dep_atom.specs.Ids.{id_text}
use Rattle.dep_atom.specs.declared.package.PackageId.{PackageId}
use Rattle.file_tree.specs.Disk.{Lists, Map}
use Rattle.file_tree.specs.Paths.{is_below}
use Rattle.file_tree.proofs.Below.{below_goes_on, below_if_goes_on}
use Rattle.vdb_paths.specs.Files.{package_file_path}
use Rattle.vdb_law.specs.Database.{IsOf}
use Rattle.vdb_law.specs.Packages.{Installed, id_of, paths}
use Rattle.vdb_law.specs.Step.{Owns}

abbrev own_folder : PackageId → List ℕ
own_folder id = codes "var/db/pkg/" ++ id_text id

path_in : (id : PackageId) (name : List ℕ) → package_file_path id name ≡ own_folder id ++ 47 ∷ name
unfolding package_file_path
path_in id name = sym (append_assoc (codes "var/db/pkg/") (id_text id) (47 ∷ name))

below_if_own : (id : PackageId) (q : List ℕ) → IsOf id q → is_below (own_folder id) q ≡ true
below_if_own id q (name, e) = subst (λ (p : List ℕ). is_below (own_folder id) p ≡ true) (sym (e ∙ path_in id name)) (below_if_goes_on (own_folder id) name)

own_if_below : (id : PackageId) (q : List ℕ) → is_below (own_folder id) q ≡ true → IsOf id q
own_if_below id q h = let k = below_goes_on (own_folder id) q h in (k.0, k.1 ∙ sym (path_in id k.0))

-- what is listed below the package's folder, and then its recorded paths, are what it owns
pub owned_paths : (m : Map) (p : Installed) (folder : List ℕ) (listed all : List (List ℕ)) → folder ≡ own_folder (id_of p) → Lists m folder listed → all ≡ listed ++ paths p → (q : List ℕ) → Has all q ↔ Owns m p q
owned_paths m p folder listed all at lists is q =
    let lists' : Lists m (own_folder (id_of p)) listed = subst (λ (f : List ℕ). Lists m f listed) at lists in (
      λ has. elim (has-append_cases listed (paths p) q (subst (λ (l : List (List ℕ)). Has l q) is has)) [
        | inl here ↦ (let k = (lists' q).0 (contains-from_has listed q here) in inr (own_if_below (id_of p) q k.0, k.1))
        | inr recorded ↦ inl recorded
      ],
      λ owns. subst (λ (l : List (List ℕ)). Has l q) (sym is) (elim owns [
        | inl recorded ↦ has-append_right listed (paths p) q recorded
        | inr own ↦ has-append_left listed (paths p) q (has-from_contains listed q ((lists' q).1 (below_if_own (id_of p) q own.0, own.1)))
      ]),
    )
