use Rattle.std.proofs.Common.{◌≡◌, false, true}
use Rattle.tree_mem.specs.Record.{is_among}
use Rattle.tree_mem.proofs.Wishes.{first-untouched, touched-all, touched-more}
use Rattle.tree_mem.proofs.choosing.check.Goals as goal

pub returns-then-not-contains-clause-fault : goal.returns-then-not-contains-clause-fault
returns-then-not-contains-clause-fault c =
    let out : is_among c.args.touched.now.keys c.loop-path-item.result.0 ≡ false = cc in
    first-untouched _ _ _ _ _ c.loop-path.invariant c.loop-path-test.true c.loop-path-item.is out c.in_ok-try_clone.ensures

pub loop-path-preserved : goal.loop-path-preserved
loop-path-preserved c =
    let among : is_among c.args.touched.now.keys c.loop-path-item.result.0 ≡ true = cc in
    touched-more _ _ _ _ c.loop-path.invariant c.loop-path-test.true c.loop-path-item.is among

pub returns-clause-ok : goal.returns-clause-ok
returns-clause-ok c = touched-all _ _ _ c.loop-path-test.false c.loop-path.invariant
