-- The package of a text, and the path of its entry.
use Rattle.std.proofs.Common.{◌≡◌, ℕ, true, List, ◌∷◌, ◌++◌, ap, append_assoc, refl, sym}
use Rattle.std.specs.Prelude.{codes}
use Rattle.pms_grammar.specs.Grammar.{spelling}
use Rattle.dep_atom.specs.Ids.{id_text}
use Rattle.dep_atom.specs.Text.{name_text}
use Rattle.dep_atom.specs.declared.package.PackageId.{PackageId}
use Rattle.file_tree.specs.Paths.{is_below}
use Rattle.visible_verdicts.specs.Candidates.{cache_folder, cache_path}

-- the text is that of the name, with the version behind it
pub id_text-parts : (id : PackageId) → id_text id ≡ name_text id.name ++ (45 ∷ spelling id.version)
id_text-parts id = sym (append_assoc id.name.category (47 ∷ id.name.«package») (45 ∷ spelling id.version))

pub path_is : (id : PackageId) (text : List ℕ) → text ≡ id_text id → codes "var/db/repos/gentoo/metadata/md5-cache/" ++ text ≡ cache_path id
unfolding cache_path
path_is id text e = ap (λ (t : List ℕ). codes "var/db/repos/gentoo/metadata/md5-cache/" ++ t) e

-- each entry is in the cache's folder
pub in_cache : (id : PackageId) → is_below cache_folder (cache_path id) ≡ true
unfolding cache_folder cache_path
in_cache id = refl
