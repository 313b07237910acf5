use Rattle.std.proofs.Common.{◌≡◌, ℕ, List, true, rules, subst, sym}
use Rattle.file_tree.specs.Paths.{is_path}
use Rattle.vdb_text.specs.Telling.{folder_path}
use Rattle.vdb_text.proofs.paths.folder_path.Goals as goal

pub of-requires : goal.of-requires
of-requires c =
    let same : c.as_str.result.now ≡ folder_path c.args.folder.now = search rules in
    subst (λ (t : List ℕ). is_path t ≡ true) (sym same) c.requires
