-- Texts with a package in them are paths.
use Rattle.std.proofs.Common.{◌≡◌, ◌<◌, ◌≤◌, ◌+◌, ◌&&◌, ℕ, true, false, eqb, ltb, leb, List, [], ◌∷◌, ◌++◌, length, get_or, refl, sym, ap, ◌∙◌, arith, append_assoc}
use Rattle.std.specs.List.{list_all}
use Rattle.std.proofs.lemmas.Bool.{and_parts, leb-true, lt-ltb, ltb-true, ne_eqb}
use Rattle.std.proofs.lemmas.Bool.Decides.{nat_tests}
use Rattle.std.proofs.lemmas.List.{append-nil, length-append}
use Rattle.pms_grammar.specs.Grammar.{spelling}
use Rattle.pms_names.specs.Bytes.{begins_badly, may_contain}
use Rattle.pms_names.specs.declared.kind.Kind.TheVariants.{Category, Package}
use Rattle.dep_atom.specs.Cuts.{is_plain}
use Rattle.dep_atom.specs.Ids.{IsId, id_text, name_and_version}
use Rattle.dep_atom.specs.declared.package.PackageId.{PackageId}
use Rattle.dep_atom.proofs.Plain.{ArePlain, plain_name, plain_version}
use Rattle.file_tree.specs.Paths.{is_path}
use Rattle.file_tree.proofs.PlainParts.{has_plain_parts, plain_parts_path}
use Rattle.vdb_paths.specs.Files.{is_capital, is_file_name, most_name_bytes, package_folder, package_file_path}

plain_is_high : (b : ℕ) → is_plain b ≡ true → 32 < b
plain_is_high b h = grind (arith, nat_tests)

no_slash : (b : ℕ) → is_plain b ≡ true → ¬ (b ≡ 47)
no_slash b h e = grind (arith, nat_tests)

-- a byte of a name or a version goes on with a part
within_part : (b : ℕ) (bs : List ℕ) → is_plain b ≡ true → has_plain_parts false (b ∷ bs) ≡ has_plain_parts false bs
within_part b bs h =
    let high : ltb 32 b ≡ true = lt-ltb 32 b (plain_is_high b h) in
    let part : eqb b 47 ≡ false = ne_eqb b 47 (no_slash b h) in
    rw (high, part) refl

-- and begins one, if it is no full stop
begins_part : (b : ℕ) (bs : List ℕ) → is_plain b ≡ true → ¬ (b ≡ 46) → has_plain_parts true (b ∷ bs) ≡ has_plain_parts false bs
begins_part b bs h other =
    let high : ltb 32 b ≡ true = lt-ltb 32 b (plain_is_high b h) in
    let dot : eqb b 46 ≡ false = ne_eqb b 46 other in
    let part : eqb b 47 ≡ false = ne_eqb b 47 (no_slash b h) in
    rw (high, dot, part) refl

pub plain_run : (bs rest : List ℕ) → ArePlain bs → has_plain_parts false (bs ++ rest) ≡ has_plain_parts false rest
plain_run [] rest h = refl
plain_run (b ∷ bs) rest h = within_part b (bs ++ rest) h.0 ∙ plain_run bs rest h.1

new_part : (bs rest : List ℕ) → ArePlain bs → 0 < length bs → ¬ (get_or bs 0 0 ≡ 46) → has_plain_parts true (bs ++ rest) ≡ has_plain_parts false rest
new_part [] rest h some other = absurd (omega (arith, some))
new_part (b ∷ bs) rest h some other = begins_part b (bs ++ rest) h.0 other ∙ plain_run bs rest h.1

category_begins : (b : ℕ) → begins_badly Category b ≡ false → ¬ (b ≡ 46)
category_begins b h e = grind (arith, nat_tests)

package_contains : (b : ℕ) → may_contain Package b ≡ true → ¬ (b ≡ 46)
package_contains b h e = grind (arith, nat_tests)

-- the names of a package are parts of a path
pub category_part : (id : PackageId) → IsId id → (rest : List ℕ) → has_plain_parts true (id.name.category ++ rest) ≡ has_plain_parts false rest
category_part id is rest =
    let spelled = is.category.spelled in
    new_part id.name.category rest (plain_name Category id.name.category is.category) spelled.sized.some (category_begins _ spelled.begins)

pub package_part : (id : PackageId) → IsId id → (rest : List ℕ) → has_plain_parts true (id.name.«package» ++ rest) ≡ has_plain_parts false rest
package_part id is rest =
    let spelled = is.«package».spelled in
    new_part id.name.«package» rest (plain_name Package id.name.«package» is.«package») spelled.sized.some (package_contains _ (spelled.each 0 spelled.sized.some))

-- and its name with its version is one
pub version_part : (id : PackageId) → IsId id → (rest : List ℕ) → has_plain_parts true (id.name.«package» ++ (45 ∷ (spelling id.version ++ rest))) ≡ has_plain_parts false rest
version_part id is rest =
    package_part id is (45 ∷ (spelling id.version ++ rest)) ∙ plain_run (spelling id.version) rest (plain_version id.version is.version.version)

pub id_parts : (id : PackageId) → IsId id → (rest : List ℕ) → has_plain_parts true (id_text id ++ rest) ≡ has_plain_parts false rest
id_parts id is rest =
    ap (has_plain_parts true) (append_assoc id.name.category (47 ∷ name_and_version id) rest)
    ∙ category_part id is (47 ∷ (name_and_version id ++ rest))
    ∙ ap (has_plain_parts true) (append_assoc id.name.«package» (45 ∷ spelling id.version) rest)
    ∙ version_part id is rest

pub id_is_short : (id : PackageId) → IsId id → length (id_text id) ≤ 767
id_is_short id is =
    let category : length id.name.category ≤ 255 = is.category.spelled.sized.short in
    let name : length id.name.«package» ≤ 255 = is.«package».spelled.sized.short in
    let version : length (spelling id.version) ≤ 255 = is.version.short in
    omega (arith, category, name, version, length-append id.name.category (47 ∷ name_and_version id), length-append id.name.«package» (45 ∷ spelling id.version))

plain_capital : (b : ℕ) → is_capital b ≡ true → is_plain b ≡ true
plain_capital b h = grind (arith, nat_tests)

capital_is_no_stop : (b : ℕ) → is_capital b ≡ true → ¬ (b ≡ 46)
capital_is_no_stop b h e = grind (arith, nat_tests)

plain_capitals : (bs : List ℕ) → list_all is_capital bs ≡ true → ArePlain bs
plain_capitals [] h = tt
plain_capitals (b ∷ bs) h =
    let parts = and_parts (is_capital b) (list_all is_capital bs) h in
    (plain_capital b parts.0, plain_capitals bs parts.1)

capitals_part : (bs : List ℕ) → list_all is_capital bs ≡ true → 0 < length bs → has_plain_parts true bs ≡ true
capitals_part [] h some = absurd (omega (arith, some))
capitals_part (b ∷ bs) h some =
    let parts = and_parts (is_capital b) (list_all is_capital bs) h in
    ap (has_plain_parts true) (sym (append-nil (b ∷ bs))) ∙ new_part (b ∷ bs) [] (plain_capitals (b ∷ bs) h) some (capital_is_no_stop b parts.0)

-- the file of a package's folder is at a path
pub record_is_path : (id : PackageId) (name : List ℕ) → IsId id → is_file_name name ≡ true → is_path (package_file_path id name) ≡ true
unfolding package_file_path
record_is_path id name is named =
    let sized = and_parts (ltb 0 (length name)) (leb (length name) most_name_bytes && list_all is_capital name) named in
    let made = and_parts (leb (length name) most_name_bytes) (list_all is_capital name) sized.1 in
    let some : 0 < length name = ltb-true 0 (length name) sized.0 in
    let short : length name ≤ 100 = leb-true (length name) most_name_bytes made.0 in
    let size : length (id_text id ++ (47 ∷ name)) ≡ length (id_text id) + length (47 ∷ name) = length-append (id_text id) (47 ∷ name) in
    plain_parts_path (package_file_path id name) (id_parts id is (47 ∷ name) ∙ capitals_part name made.1 some) (omega arith) (omega (arith, short, size, id_is_short id is))

-- and so is that folder
pub folder_is_path : (id : PackageId) → IsId id → is_path (package_folder id) ≡ true
folder_is_path id is =
    plain_parts_path (package_folder id) (ap (has_plain_parts true) (sym (append-nil (id_text id))) ∙ id_parts id is []) (omega arith) (omega (arith, id_is_short id is))
