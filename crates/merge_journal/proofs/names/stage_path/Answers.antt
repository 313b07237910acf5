use Rattle.std.proofs.Common.{◌≡◌, ℕ, List, true, ◌∙◌, subst, sym}
use Rattle.file_tree.specs.Paths.{is_path}
use Rattle.merge_journal.specs.Names.{Stage, named, part_name}
use Rattle.merge_journal.proofs.Named.{part_is_path}
use Rattle.merge_journal.proofs.names.stage_path.Goals as goal

pub named-requires : goal.named-requires
named-requires c =
    let same : c.deref.result.now ≡ part_name (Stage c.args.index) = c.deref.ensures ∙ c.in_ok-name.ensures in
    subst (λ (t : List ℕ). is_path (named c.args.group t) ≡ true) (sym same) (part_is_path c.args.group (Stage c.args.index))
