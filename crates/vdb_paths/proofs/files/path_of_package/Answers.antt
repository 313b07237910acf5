use Rattle.std.proofs.Common.{◌≡◌, ℕ, List, true, rules, subst, sym}
use Rattle.file_tree.specs.Paths.{is_path}
use Rattle.vdb_paths.specs.Files.{package_folder}
use Rattle.vdb_paths.proofs.Placed.{folder_is_path}
use Rattle.vdb_paths.proofs.files.path_of_package.Goals as goal

pub of-requires : goal.of-requires
of-requires c =
    let same : c.as_str.result.now ≡ package_folder c.args.id.now = search rules in
    subst (λ (t : List ℕ). is_path t ≡ true) (sym same) (folder_is_path c.args.id.now c.id_is_one.ensures)
