use Rattle.std.proofs.Common.{◌≡◌, ℕ, List, true, rules, subst, sym}
use Rattle.file_tree.specs.Paths.{is_path}
use Rattle.visible_verdicts.specs.Candidates.{cache_path}
use Rattle.visible_verdicts.proofs.Placed.{cache_is_path}
use Rattle.visible_verdicts.proofs.place.entry_path.Goals as goal

pub of-requires : goal.of-requires
unfolding cache_path
of-requires c =
    let same : c.as_str.result.now ≡ cache_path c.args.id.now = search rules in
    subst (λ (t : List ℕ). is_path t ≡ true) (sym same) (cache_is_path c.args.id.now c.requires)
