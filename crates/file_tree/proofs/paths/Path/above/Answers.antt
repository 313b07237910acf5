use Rattle.std.proofs.Common.{rules, ap, take, ◌∙◌, ◌≡◌}
use Rattle.std.specs.Prelude.{slice_index}
use Rattle.file_tree.specs.Paths.{is_path}
use Rattle.file_tree.proofs.Fronts.{above_is_path}
use Rattle.file_tree.proofs.paths.Path.above.Goals as goal

pub of-requires : goal.of-requires
of-requires c =
    let slash : slice_index c.args.self.now c.args.at ≡ 47 = search rules in
    let front : c.in-Some.front.now ≡ take c.args.at c.args.self.now = search rules in
    ap is_path front ∙ above_is_path c.args.self.now c.args.at c.requires slash c.text-text.ensures.form
