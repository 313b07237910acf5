use Rattle.std.proofs.Common.{arith, length}
use Rattle.std.proofs.lemmas.List.{length-map}
use Rattle.choice_tree.specs.Seen.{place_of, places_of}
use Rattle.choice_tree.proofs.Gathered.{more_lines}
use Rattle.merge_edges.specs.Found.{change_at}
use Rattle.merge_edges.proofs.listing.all_changes.Goals as goal

pub loop-line-preserved : goal.loop-line-preserved
loop-line-preserved c =
    let ss = places_of c.args.places.now in
    let long = length-map c.args.places.now place_of in
    let test = c.loop-line-test.true in
    more_lines (change_at ss) (length ss) c.loop-line.line (omega (arith, long, test)) _ _ _ c.in_ok-push_change.ensures c.loop-line.invariant
