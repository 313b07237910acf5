use Rattle.std.proofs.Common.{◌∷◌, []}
use Rattle.choice_tree.specs.Seen.{place_of}
use Rattle.choice_walk.specs.Settled.{lines_around}
use Rattle.choice_walk.proofs.Unsettled.{both_in, kept_both, still_in}
use Rattle.choice_walk.proofs.settling.unsettle.Goals as goal
use Rattle.std.specs.Prelude.{◌++◌}

pub returns-clause-come : goal.returns-clause-come
returns-clause-come c =
    let old = lines_around c.args.leaves.now.lists c.args.texts.now.lists (place_of c.args.before.now) in
    let new = lines_around c.args.leaves.now.lists c.args.texts.now.lists (place_of c.args.after.now) in
    let one = c.add.new.lines in
    let two = c.add_around.new.lines in
    let end = c.add_around-2.new.lines in
    both_in (c.args.line ∷ []) (old ++ new) end
    (still_in (c.args.line ∷ []) one end c.in_ok-add.ensures.come (kept_both one two end c.add_around.ensures.kept c.add_around-2.ensures.kept))
    (both_in old new end (still_in old two end c.in_ok-add_around.ensures.come c.add_around-2.ensures.kept) c.in_ok-add_around-2.ensures.come)
