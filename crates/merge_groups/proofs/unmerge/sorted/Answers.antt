use Rattle.std.proofs.Common.{map}
use Rattle.merge_groups.specs.declared.change.Change.TheVariants as changes
use Rattle.merge_groups.proofs.Apart.{texts_apart}
use Rattle.merge_groups.proofs.unmerge.sorted.Goals as goal

pub in_text_order-requires : goal.in_text_order-requires
in_text_order-requires c =
    texts_apart c.one_plan.ensures changes.Removal (map (λ p. p.now) c.args.packages.now) c.packages_are_named.ensures c.requires
