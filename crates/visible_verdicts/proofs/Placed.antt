-- The places of a package's entry and of its ebuild are paths.
use Rattle.std.proofs.Common.{◌≡◌, ◌≤◌, ◌∙◌, ℕ, true, List, [], ◌∷◌, ◌++◌, length, ap, sym, arith}
use Rattle.std.specs.Prelude.{codes}
use Rattle.std.proofs.lemmas.List.{append-nil, length-append}
use Rattle.pms_grammar.specs.Grammar.{spelling}
use Rattle.dep_atom.specs.Ids.{IsId, id_text}
use Rattle.dep_atom.specs.declared.package.PackageId.{PackageId}
use Rattle.file_tree.specs.Paths.{is_path}
use Rattle.file_tree.proofs.PlainParts.{has_plain_parts, plain_parts_path}
use Rattle.vdb_paths.proofs.Placed.{category_part, id_is_short, id_parts, package_part, version_part}
use Rattle.visible_verdicts.specs.Candidates.{cache_path, ebuild_name, ebuild_path}

pub cache_is_path : (id : PackageId) → IsId id → is_path (cache_path id) ≡ true
unfolding cache_path
cache_is_path id is =
    plain_parts_path (cache_path id) (ap (has_plain_parts true) (sym (append-nil (id_text id))) ∙ id_parts id is []) (omega arith) (omega (arith, id_is_short id is))

pub ebuild_is_path : (id : PackageId) → IsId id → is_path (ebuild_path id) ≡ true
unfolding ebuild_path
ebuild_is_path id is = plain_parts_path (ebuild_path id) parts (omega arith) short
  where
    behind : List ℕ
    behind = id.name.«package» ++ (47 ∷ ebuild_name id)

    parts : has_plain_parts true (ebuild_path id) ≡ true
    parts = category_part id is (47 ∷ behind) ∙ package_part id is (47 ∷ ebuild_name id) ∙ version_part id is (codes ".ebuild")

    short : length (ebuild_path id) ≤ 4095
    short =
        let category : length id.name.category ≤ 255 = is.category.spelled.sized.short in
        let name : length id.name.«package» ≤ 255 = is.«package».spelled.sized.short in
        let version : length (spelling id.version) ≤ 255 = is.version.short in
        omega (arith, category, name, version, length-append id.name.category (47 ∷ behind), length-append id.name.«package» (47 ∷ ebuild_name id), length-append id.name.«package» (45 ∷ (spelling id.version ++ codes ".ebuild")), length-append (spelling id.version) (codes ".ebuild"))
