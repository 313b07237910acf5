use Rattle.std.proofs.Common.{◌≡◌, true, false, sym}
use Rattle.merge_journal.specs.Judging.{is_free}
use Rattle.merge_journal.proofs.Free.{on_true, walk_step, walk_stop, walk_end}
use Rattle.merge_journal.proofs.judging.take_paths.Goals as goal

pub returns-then-not-branch-clause-free : goal.returns-then-not-branch-clause-free
returns-then-not-branch-clause-free c =
    let free : is_free c.loop-path.taken c.path-item.result ≡ false = cc (c.in_ok-take_free.ensures.free, c.if-not-branch.true) in
    sym (walk_stop c.args.taken.now c.loop-path.taken c.args.paths.now c.loop-path.path-index c.path-item.result c.loop-path-test.true c.path-item.is free c.loop-path.invariant)

pub loop-path-preserved : goal.loop-path-preserved
loop-path-preserved c =
    let free : is_free c.loop-path.taken c.path-item.result ≡ true = cc (c.in_ok-take_free.ensures.free, c.if-not-branch.false) in
    let ok : c.in_ok-take_free.field-0 ≡ true = cc (c.if-not-branch.false) in
    walk_step c.args.taken.now c.loop-path.taken c.take_free.new.taken c.args.paths.now c.loop-path.path-index c.path-item.result c.loop-path-test.true c.path-item.is free (on_true c.in_ok-take_free.field-0 _ ok c.in_ok-take_free.ensures.taken) c.loop-path.invariant

pub returns-clause-free : goal.returns-clause-free
returns-clause-free c = sym (walk_end c.args.taken.now c.loop-path.taken c.args.paths.now c.loop-path.path-index c.loop-path-test.false c.loop-path.invariant).0
