use Rattle.std.proofs.Common.{◌≡◌, ℕ, List, true, rules, subst, sym}
use Rattle.file_tree.specs.Paths.{is_path}
use Rattle.vdb_paths.specs.Files.{package_file_path}
use Rattle.vdb_paths.proofs.Placed.{record_is_path}
use Rattle.vdb_paths.proofs.files.path_of_record.Goals as goal

pub of-requires : goal.of-requires
unfolding package_file_path
of-requires c =
    let same : c.as_str.result.now ≡ package_file_path c.args.id.now c.args.name.now = search rules in
    subst (λ (t : List ℕ). is_path t ≡ true) (sym same) (record_is_path c.args.id.now c.args.name.now c.id_is_one.ensures c.requires)
