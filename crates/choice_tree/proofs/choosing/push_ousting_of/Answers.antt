use Rattle.std.proofs.Common.{◌++◌, Some, false, filter, length, true}
use Rattle.choice_law.specs.Universe.{conflicts}
use Rattle.choice_tree.specs.Candidates.{free_line}
use Rattle.choice_tree.specs.Options.{in_order, ousting}
use Rattle.choice_tree.specs.Seen.{places_of}
use Rattle.choice_tree.specs.Views.{decisions_of}
use Rattle.choice_tree.proofs.Gathered.{more_lines}
use Rattle.choice_tree.proofs.choosing.push_ousting_of.Goals as goal

pub loop-line-preserved : goal.loop-line-preserved
loop-line-preserved c =
    let ss = places_of c.args.places.now in
    more_lines (λ m. in_order c.args.update (filter (λ x. conflicts true x.is c.args.gone.now) (free_line false ss m))) (length c.args.places.now) c.loop-line.line c.loop-line-test.true
    (decisions_of c.loop-line.out.items) (decisions_of c.push_ousting_of_line.new.out.items) (decisions_of c.args.out.now.items ++ ousting c.args.update ss (Some c.args.gone.now)) c.in_ok-push_ousting_of_line.ensures c.loop-line.invariant
