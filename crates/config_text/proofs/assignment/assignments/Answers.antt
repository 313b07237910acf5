use Rattle.std.proofs.Common.{◌++◌}
use Rattle.config_text.proofs.Items.{knows_on, so_far_end, so_far_fault, so_far_more}
use Rattle.config_text.proofs.OneText.{no_fault, one_list}
use Rattle.config_text.proofs.Runs.{nothing_left}
use Rattle.config_text.proofs.BadBytes.{no_bad_byte}
use Rattle.config_text.specs.Reading.{listed}
use Rattle.config_text.proofs.assignment.assignments.Goals as goal

pub returns-in-Err-clause-only : goal.returns-in-Err-clause-only
returns-in-Err-clause-only c = λ said good says. absurd (no_bad_byte c.args.bytes.now c.in-Err.line good c.in-Err.ensures.line)

pub returns-in-Err-read_item-clause-only : goal.returns-in-Err-read_item-clause-only
returns-in-Err-read_item-clause-only c = λ said good says.
    no_fault c.args.before.now c.args.bytes.now said c.in-Err-read_item.fault good says
    (so_far_fault c.args.before.now c.args.bytes.now c.loop-rest.rest.now c.loop-rest.found.items c.loop-rest.line c.in-Err-read_item.fault c.loop-rest.invariant.0 c.in-Err-read_item.ensures.fault)

pub loop-rest-preserved : goal.loop-rest-preserved
loop-rest-preserved c = (
  so_far_more c.args.before.now c.args.bytes.now c.loop-rest.rest.now c.in-Ok-read_item.step.behind.now c.loop-rest.found.items c.keep.new.found.items c.loop-rest.line c.line_after-line.result c.loop-rest.known.values c.in-Ok-read_item.step.assignment c.loop-rest.invariant.0 c.loop-rest.invariant.1 c.in-Ok-read_item.ensures.found c.in_ok-keep.ensures.found c.line_after-line.ensures,
  knows_on c.args.before.now c.loop-rest.found.items c.keep.new.found.items (listed c.in-Ok-read_item.step.assignment) c.keep.new.known.values c.in_ok-keep.ensures.found (c.in_ok-keep.ensures.known (c.args.before.now ++ c.loop-rest.found.items) c.loop-rest.invariant.1),
)

pub returns-clause-only : goal.returns-clause-only
returns-clause-only c = λ said good says.
    one_list c.args.before.now c.args.bytes.now c.loop-rest.found.items said
    (so_far_end c.args.before.now c.args.bytes.now c.loop-rest.rest.now c.loop-rest.found.items c.loop-rest.line c.loop-rest.invariant.0 (nothing_left c.loop-rest.rest.now c.loop-rest-test.ensures)) says
