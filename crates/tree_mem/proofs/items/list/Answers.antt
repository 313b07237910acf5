use Rattle.std.proofs.Common.{◌∙◌}
use Rattle.tree_mem.proofs.Below.{listed-below, listed-sorted}
use Rattle.tree_mem.proofs.items.list.Goals as goal

pub returns-clause-answer : goal.returns-clause-answer
returns-clause-answer c =
    let starts = rw (c.as_str.ensures.value, ← c.as_str-2.ensures.value) at c.start-at.ensures in
    listed-below c.args.items.now c.args.below.now c.as_str-2.result.now c.start-at.result c.in_ok-paths.paths.items c.requires.rising (c.as_str-2.ensures.value ∙ c.in_ok-folder.ensures) starts c.in_ok-paths.ensures

pub returns-clause-rising : goal.returns-clause-rising
returns-clause-rising c = listed-sorted c.args.items.now c.as_str-2.result.now c.start-at.result c.in_ok-paths.paths.items c.requires.rising c.in_ok-paths.ensures
