use Rattle.std.proofs.Common.{◌≡◌, map, true, false, sym, arith}
use Rattle.merge_journal.specs.Judging.{is_free, path_of}
use Rattle.merge_journal.proofs.Free.{length-paths, on_true, path_at_map, walk_step, walk_stop, walk_end}
use Rattle.merge_journal.proofs.judging.take_placements.Goals as goal

pub returns-then-not-branch-clause-free : goal.returns-then-not-branch-clause-free
returns-then-not-branch-clause-free c =
    let free : is_free c.loop-placement.taken c.placement-item.result.path ≡ false = cc (c.in_ok-take_free.ensures.free, c.if-not-branch.true) in
    sym (walk_stop c.args.taken.now c.loop-placement.taken (map path_of c.args.placements.now) c.loop-placement.placement-index c.placement-item.result.path (omega (arith, length-paths c.args.placements.now, c.loop-placement-test.true)) (path_at_map c.args.placements.now c.loop-placement.placement-index c.placement-item.result c.loop-placement-test.true c.placement-item.is) free c.loop-placement.invariant)

pub loop-placement-preserved : goal.loop-placement-preserved
loop-placement-preserved c =
    let free : is_free c.loop-placement.taken c.placement-item.result.path ≡ true = cc (c.in_ok-take_free.ensures.free, c.if-not-branch.false) in
    let ok : c.in_ok-take_free.field-0 ≡ true = cc (c.if-not-branch.false) in
    walk_step c.args.taken.now c.loop-placement.taken c.take_free.new.taken (map path_of c.args.placements.now) c.loop-placement.placement-index c.placement-item.result.path (omega (arith, length-paths c.args.placements.now, c.loop-placement-test.true)) (path_at_map c.args.placements.now c.loop-placement.placement-index c.placement-item.result c.loop-placement-test.true c.placement-item.is) free (on_true c.in_ok-take_free.field-0 _ ok c.in_ok-take_free.ensures.taken) c.loop-placement.invariant

pub returns-clause-free : goal.returns-clause-free
returns-clause-free c = sym (walk_end c.args.taken.now c.loop-placement.taken (map path_of c.args.placements.now) c.loop-placement.placement-index (omega (arith, length-paths c.args.placements.now, c.loop-placement-test.false)) c.loop-placement.invariant).0
