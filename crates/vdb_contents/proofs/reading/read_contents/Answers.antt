use Rattle.vdb_contents.proofs.Lines.{good_has_no_fault, one_contents}
use Rattle.vdb_contents.proofs.Progress.{ended, gone, stopped}
use Rattle.vdb_contents.proofs.reading.read_contents.Goals as goal

pub returns-then-not-branch-clause-only : goal.returns-then-not-branch-clause-only
returns-then-not-branch-clause-only c owned is =
    let f = stopped c.args.text.now c.loop-line.rest.now c.in-Some.line.now c.in-Some.behind.now c.loop-line.number c.loop-line.reading.taken c.loop-line.reading.owned.items
    c.loop-line.invariant c.in-Some.ensures (rw c.if-not-branch.true at c.in_ok-add.ensures) in
    absurd (good_has_no_fault c.args.text.now owned f.0 is f.2)

pub returns-then-not-branch-clause-fault : goal.returns-then-not-branch-clause-fault
returns-then-not-branch-clause-fault c =
    stopped c.args.text.now c.loop-line.rest.now c.in-Some.line.now c.in-Some.behind.now c.loop-line.number c.loop-line.reading.taken c.loop-line.reading.owned.items
    c.loop-line.invariant c.in-Some.ensures (rw c.if-not-branch.true at c.in_ok-add.ensures)

pub loop-line-preserved : goal.loop-line-preserved
loop-line-preserved c =
    gone c.args.text.now c.loop-line.rest.now c.in-Some.line.now c.in-Some.behind.now c.loop-line.number c.loop-line.reading.taken c.add.new.self.taken
    c.loop-line.reading.owned.items c.add.new.self.owned.items c.loop-line.invariant c.in-Some.ensures (rw c.if-not-branch.false at c.in_ok-add.ensures)

pub returns-clause-only : goal.returns-clause-only
returns-clause-only c owned is =
    one_contents c.args.text.now c.loop-line.reading.owned.items owned
    (ended c.args.text.now c.loop-line.rest.now c.loop-line.number c.loop-line.reading.taken c.loop-line.reading.owned.items c.in_default.ensures c.loop-line.invariant) is
