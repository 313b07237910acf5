use Rattle.std.proofs.Common.{◌≡◌, ℕ, List, true, rules, subst, sym}
use Rattle.file_tree.specs.Paths.{is_path}
use Rattle.visible_verdicts.specs.Candidates.{ebuild_path}
use Rattle.visible_verdicts.proofs.Placed.{ebuild_is_path}
use Rattle.visible_verdicts.proofs.place.ebuild_path.Goals as goal

pub of-requires : goal.of-requires
unfolding ebuild_path
of-requires c =
    let same : c.as_str.result.now ≡ ebuild_path c.args.id.now = search rules in
    subst (λ (t : List ℕ). is_path t ≡ true) (sym same) (ebuild_is_path c.args.id.now c.requires)
