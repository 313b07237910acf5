-- The paths of the files of packages.
use Rattle.std.proofs.Common.{◌≡◌, ◌∙◌, ℕ, true, List, [], ◌∷◌, ◌++◌, drop, refl, ap, sym, append_assoc}
use Rattle.std.specs.Prelude.{codes}
use Rattle.std.proofs.lemmas.List.{append_cancel_left}
use Rattle.pms_grammar.specs.Grammar.{IsVersion, VersionValue, spelling}
use Rattle.pms_names.specs.declared.kind.Kind.TheVariants.{Category, Package}
use Rattle.dep_atom.specs.Cuts.{Lacks}
use Rattle.dep_atom.specs.Ids.{IsId, id_text, name_and_version}
use Rattle.file_tree.specs.Paths.{is_below}
use Rattle.dep_atom.specs.declared.package.PackageId.{PackageId}
use Rattle.dep_atom.proofs.Cuts.{cut_once}
use Rattle.dep_atom.proofs.Joined.{ComesApart, id_same}
use Rattle.dep_atom.proofs.Plain.{lacks-append, lacks_plain, plain_name, plain_version}
use Rattle.vdb_paths.specs.Files.{package_file_path}
use Rattle.file_tree.specs.Fixed.{database_path}

category_lacks : (id : PackageId) → IsId id → Lacks 47 47 id.name.category
category_lacks id is = lacks_plain 47 47 id.name.category refl refl (plain_name Category id.name.category is.category)

pf_lacks : (id : PackageId) → IsId id → Lacks 47 47 (name_and_version id)
pf_lacks id is =
    lacks-append 47 47 id.name.«package» (45 ∷ spelling id.version) (lacks_plain 47 47 id.name.«package» refl refl (plain_name Package id.name.«package» is.«package»)) (lacks_plain 47 47 (spelling id.version) refl refl (plain_version id.version is.version.version))

-- a path of a package's folder, by its parts
pub package_file_path-parts : (id : PackageId) (name : List ℕ) → package_file_path id name ≡ codes "var/db/pkg/" ++ (id.name.category ++ (47 ∷ (name_and_version id ++ (47 ∷ name))))
unfolding package_file_path
package_file_path-parts id name = ap (λ (t : List ℕ). codes "var/db/pkg/" ++ t) (append_assoc id.name.category (47 ∷ name_and_version id) (47 ∷ name))

-- a version is spelled in one way
abbrev pub OneSpelling : Type 0
OneSpelling = (p q : VersionValue) → IsVersion p → IsVersion q → spelling p ≡ spelling q → p ≡ q

same_id : ComesApart → OneSpelling → (a b : PackageId) → IsId a → IsId b → a.name.category ≡ b.name.category → name_and_version a ≡ name_and_version b → a ≡ b
same_id apart once a b is-a is-b category e =
    let parts = apart a.name.«package» b.name.«package» (spelling a.version) (spelling b.version) (a.version, is-a.version.version, refl) (b.version, is-b.version.version, refl) e in
    id_same a.name.category a.name.«package» a.version b category parts.0 (once a.version b.version is-a.version.version is-b.version.version parts.1)

-- no two packages have one path in their folders
pub one_id : ComesApart → OneSpelling → (a b : PackageId) (x y : List ℕ) → IsId a → IsId b → package_file_path a x ≡ package_file_path b y → a ≡ b
one_id apart once a b x y is-a is-b same =
    let front : List ℕ = name_and_version a ++ (47 ∷ x) in
    let back : List ℕ = name_and_version b ++ (47 ∷ y) in
    let e : a.name.category ++ (47 ∷ front) ≡ b.name.category ++ (47 ∷ back) = append_cancel_left (codes "var/db/pkg/") (a.name.category ++ (47 ∷ front)) (b.name.category ++ (47 ∷ back)) (sym (package_file_path-parts a x) ∙ same ∙ package_file_path-parts b y) in
    let one = cut_once 47 47 a.name.category (47 ∷ front) b.name.category (47 ∷ back) (category_lacks a is-a) (category_lacks b is-b) refl refl e in
    let two = cut_once 47 47 (name_and_version a) (47 ∷ x) (name_and_version b) (47 ∷ y) (pf_lacks a is-a) (pf_lacks b is-b) refl refl (ap (drop 1) one.1) in
    same_id apart once a b is-a is-b one.0 two.0

-- files of other names have other paths
pub record_names_differ : (id : PackageId) (a b : List ℕ) → package_file_path id a ≡ package_file_path id b → a ≡ b
unfolding package_file_path
record_names_differ id a b e =
    let rest = append_cancel_left (id_text id) (47 ∷ a) (47 ∷ b) (append_cancel_left (codes "var/db/pkg/") (id_text id ++ (47 ∷ a)) (id_text id ++ (47 ∷ b)) e) in
    append_cancel_left (47 ∷ []) a b rest

pub record_is_below : (id : PackageId) (name : List ℕ) → is_below database_path (package_file_path id name) ≡ true
unfolding database_path package_file_path
record_is_below id name = refl
