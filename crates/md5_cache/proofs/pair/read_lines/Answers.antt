use Rattle.md5_cache.proofs.Lines.{all_lines, lacks_at, pushed}
use Rattle.md5_cache.proofs.pair.read_lines.Goals as goal

pub loop-at-init : goal.loop-at-init
loop-at-init c = (c.new-pairs.ensures.items, tt)

pub returns-in_default-clause-fault : goal.returns-in_default-clause-fault
returns-in_default-clause-fault c = lacks_at c.args.lines.now c.loop-at.at c.line_number.result _ c.loop-at-test.true c.loop-at.invariant.1 c.in_default.ensures c.line_number.ensures

pub loop-at-preserved : goal.loop-at-preserved
loop-at-preserved c = pushed c.args.lines.now c.loop-at.at _ c.loop-at.pairs.items c.push.new.self.items c.in-Some.key.now c.in-Some.value.now c.in_ok-new.field-0 c.in_ok-new-2.field-0 c.loop-at-test.true c.in-Some.ensures c.in_ok-new.ensures c.in_ok-new-2.ensures c.in_ok-push.ensures.items c.loop-at.invariant

pub returns-clause-found : goal.returns-clause-found
returns-clause-found c = (all_lines c.args.lines.now c.loop-at.at c.loop-at.pairs.items c.loop-at-test.false c.loop-at.invariant).0

pub returns-clause-split : goal.returns-clause-split
returns-clause-split c = (all_lines c.args.lines.now c.loop-at.at c.loop-at.pairs.items c.loop-at-test.false c.loop-at.invariant).1
